-- Records that decode a Thumb instruction: the manual says by A7.1 what each native one does, and
-- the halves of BL, and their text acts so.
use Rattle.std.proofs.Common.{Some}
use Prim.Native.Nat.{ℕ, ◌+◌, ◌*◌, ◌%◌, ◌^◌}
use mathlib.Core.Path.{◌≡◌, refl, sym, ap, ◌∙◌, subst}
use mathlib.Core.Bool.{Bool, true, false, ◌&&◌, ◌||◌}
use mathlib.Core.List.{List}
use mathlib.Core.Option.{some}
use Rattle.armv4t.specs.declared.Instr.{Instr}
use Rattle.armv4t.specs.Bit0.{set_bit0}
use Rattle.armv4t.specs.Fused.{fuse}
use Rattle.file_instrs.specs.declared.decode.TimedInstr.{TimedInstr}
use Rattle.c_tree.specs.Stmt.{Owner}
use Rattle.c_meaning.specs.State.{State}
use Rattle.armv4t_manual.specs.Machine.{Machine, Sound}
use Rattle.armv4t_manual.specs.Conditions.{passed}
use Rattle.armv4t.specs.InRange.{InRange}
use Rattle.armv4t_manual.specs.Unsaid.{no_instruction, unpredictable, is_nv}
use Rattle.armv4t_manual.specs.Execute.{execute}
use Rattle.armv4t_manual.specs.Thumb.{Thumb, format_19_high, format_19_low, Fits, SignExtend11}
use Rattle.armv4t_manual.specs.Thumb.{ahead, decoded, thumb_operation}
use Rattle.armv4t_manual.proofs.Kept.{execute_sound}
use Rattle.armv4t_manual.proofs.Thumb.{thumb_executes, thumb_in_range, thumb_said}
use Rattle.lower_forms.specs.Forms.{native}
use Rattle.lower_forms.specs.Block.{emit_pair, emit_instr}
use Rattle.lower_forms.specs.Agree.{Agrees}
use Rattle.lower_forms.specs.Differs.{differs_in}
use Rattle.lower_forms.proofs.Thumb.{thumb_same}
use Rattle.lower_units.specs.Block.{native_text}
use Rattle.lower_units.specs.Text.{Leaves}
use Rattle.lower_units.specs.Records.{is_named_difference, RecordMeans, ThumbMeans}
use Rattle.lower_units.specs.Records.{ThumbPairMeans}
use Rattle.lower_units.proofs.RecordMeans.{record_means}
use Rattle.lower_units.proofs.Pairs.{pair_means}

-- neither of two, the second after a test
pub neither : (x y z : Bool) → x ≡ false → z ≡ false → (x || (y && z)) ≡ false
neither x true z p q = ap (λ (b : Bool). b || z) p ∙ q
neither x false z p q = ap (λ (b : Bool). b || false) p

-- no Thumb instruction, as it is decoded, is a named difference
same_as_manual : (a : ℕ) (t : Thumb) → Fits t → a % 2 ≡ 0 → (m : Machine)
    → is_named_difference (decoded a t) m ≡ false
same_as_manual a t h e m =
    neither (is_nv (decoded a t).cond) (passed (decoded a t).cond m)
    (differs_in (decoded a t) (decoded a t).op) (thumb_said a t h).2 (thumb_same a t h e)

-- what the manual says of a record that decodes a Thumb instruction is what A7.1 says
record_executes : (i : Instr) (t : Thumb) → Fits t → i ≡ decoded i.addr t → i.addr % 2 ≡ 0
    → (m : Machine) → Sound m
    → execute i m ≡ thumb_operation i.addr t m
record_executes i t h d e m s =
    subst (λ (j : Instr). execute j m ≡ thumb_operation i.addr t m) (sym d)
    (thumb_executes i.addr t h e m s)

-- its fields are in range
record_in_range : (i : Instr) (t : Thumb) → Fits t → i ≡ decoded i.addr t → i.addr % 2 ≡ 0
    → InRange i.op
record_in_range i t h d e =
    subst (λ (j : Instr). InRange j.op) (sym d) (thumb_in_range i.addr t h e)

pub thumb_means : (ks : List ℕ) (at region : ℕ) (x : TimedInstr) → ThumbMeans ks at region x
thumb_means ks at region x t h d e cycles r n o z m s g =
    let q =
    meant.said cycles r own
    (subst (λ (i : Instr). no_instruction i ≡ false) (sym d)
    (thumb_said x.instr.addr t h).0)
    (subst (λ (i : Instr). unpredictable i.op ≡ false) (sym d)
    (thumb_said x.instr.addr t h).1) m in (
      q.0,
      said-so q.0 q.1,
      meant.acts cycles r own o z m s g
          (subst (λ (i : Instr). is_named_difference i m ≡ false) (sym d)
          (same_as_manual x.instr.addr t h e m)) q.0 q.1,
    )
  where
    meant : RecordMeans ks at region x
    meant = record_means ks at region x (record_in_range x.instr t h d e)

    own : (emit_instr x.instr.thumb region cycles x).0 ≡ native r
    own =
        subst (λ (b : Bool). (emit_instr b region cycles x).0 ≡ native r)
        (sym (ap (λ (i : Instr). i.thumb) d)) n

    said-so : (next : Machine × ℕ) → execute x.instr m ≡ some next
        → thumb_operation x.instr.addr t m ≡ some next
    said-so next p = sym (record_executes x.instr t h d e m s) ∙ p

-- A7.1 says what the halves of BL do
high_said : (a h : ℕ) (m : Machine)
    → (half : Machine × ℕ) × (thumb_operation a (format_19_high h) m ≡ some half)
unfolding thumb_operation
high_said a h m = (_, refl)

low_said : (a l : ℕ) (m : Machine)
    → (next : Machine × ℕ) × (thumb_operation a (format_19_low l) m ≡ some next)
unfolding thumb_operation
low_said a l m = (_, refl)

-- records that decode them fuse
module _ (x y : TimedInstr) (h l : ℕ) where
  abbrev target : ℕ
  target = (ahead x.instr.addr (SignExtend11 h * 2 ^ 12 % 2 ^ 32) + l * 2) % 2 ^ 32

  abbrev ret : ℕ
  ret = set_bit0 ((y.instr.addr + 2) % 2 ^ 32)

  halves_fuse : x.instr ≡ decoded x.instr.addr (format_19_high h)
      → y.instr ≡ decoded y.instr.addr (format_19_low l)
      → fuse x.instr y.instr ≡ Some (target, ret)
  unfolding fuse
  halves_fuse dx dy =
      subst (λ (i : Instr). fuse i y.instr ≡ Some (target, ret)) (sym dx)
      (subst (λ (j : Instr). fuse (decoded x.instr.addr (format_19_high h)) j ≡ Some (target, ret))
      (sym dy) refl)

pub thumb_pair_means : (ks : List ℕ) (at : ℕ) (x y : TimedInstr) → ThumbPairMeans ks at x y
thumb_pair_means ks at x y h l fh fl dx dy ex ey =
    (target x y h l, ret x y h l, halves_fuse x y h l dx dy, leaving)
  where
    leaving : (cycles : ℕ) (o : Owner) (z : State) (m : Machine) → Sound m → Agrees z m
        → (half next : Machine × ℕ)
        × (thumb_operation x.instr.addr (format_19_high h) m ≡ some half)
        × (thumb_operation y.instr.addr (format_19_low l) half.0 ≡ some next)
        × Leaves (native_text ks at o (emit_pair cycles (target x y h l) (ret x y h l))) z next
    leaving cycles o z m s g =
        let a = high_said x.instr.addr h m in
        let d : execute x.instr m ≡ some a.0 =
        record_executes x.instr (format_19_high h) fh dx ex m s ∙ a.1 in
        let still : Sound a.0.0 =
        execute_sound x.instr m (record_in_range x.instr (format_19_high h) fh dx ex) s
        a.0 d in
        let b = low_said y.instr.addr l a.0.0 in
        let e : execute y.instr a.0.0 ≡ some b.0 =
        record_executes y.instr (format_19_low l) fl dy ey a.0.0 still ∙ b.1 in (
          a.0,
          b.0,
          a.1,
          b.1,
          pair_means ks at x y (target x y h l) (ret x y h l)
              (halves_fuse x y h l dx dy) cycles o z m s g a.0 b.0 d e,
        )
