-- To be believed: what C's statements act on: the words c[0] to c[16], the bytes of memory, the
-- locals in their scopes, and the runtime.
use Rattle.std.specs.Prelude.{ℕ, suc, ◌+◌, ◌*◌, ◌/◌, ◌%◌, ◌^◌, ◌≡◌, cond, List, [], ◌∷◌, leb, eqb}
use Rattle.std.proofs.Math.Option.{Option, none, some}
use Rattle.c_tree.specs.Expr.{Ty, u32, Name, x-r, x-base, x-ob, x-addr, x-t, x-s, x-cn, x-cz, x-cc}
use Rattle.c_tree.specs.Expr.{x-cv, x-pc, x-v, x-n, x-a, x-b, x-cin, x-w, Var, Place, reg, var}
use Rattle.c_tree.specs.Expr.{Width, w8, w16, w32}
use Rattle.c_meaning.specs.Types.{same_ty}

module _ {A B : Type 0} where
  -- what is undefined stays undefined
  abbrev pub bind : Option A → (A → Option B) → Option B
  bind none f = none
  bind (some x) f = f x

module _ {A : Type 0} where
  -- f, with another value at k
  abbrev pub update : ℕ → A → (ℕ → A) → ℕ → A
  update k x f l = cond (eqb l k) x (f l)

-- a number for each name, so that names can be compared
abbrev pub index : Name → ℕ
index x-r = 0
index x-base = 1
index x-ob = 2
index x-addr = 3
index x-t = 4
index x-s = 5
index x-cn = 6
index x-cz = 7
index x-cc = 8
index x-cv = 9
index x-pc = 10
index x-v = 11
index x-n = 12
index x-a = 13
index x-b = 14
index x-cin = 15
index x-w = 16

-- a local: its type as declared, and its value, which it lacks until it is given one
abbrev pub Cell : Type 0
Cell = Ty × Option ℕ

-- the locals declared in one scope, by the numbers of their names
abbrev pub Scope : Type 0
Scope = ℕ → Option Cell

-- a scope in which nothing is declared yet
abbrev pub empty : Scope
empty k = none

-- what interp_one leaves: the words of c and the bytes of memory, and its answer
pub record Interpreted : Type 0 where
  pub c : ℕ → ℕ
  pub mem : ℕ → ℕ
  pub answer : ℕ

-- what one call of interp_one makes of the words of c and the bytes of memory
abbrev pub Interpreter : Type 0
Interpreter = (ℕ → ℕ) → (ℕ → ℕ) → Interpreted

-- the state: scopes has the innermost first; answers are those that guard and chain_gate will give,
-- in order; interpreter is what the calls of interp_one will make, in order, since it has a state
-- of its own
pub record State : Type 0 where
  pub c : ℕ → ℕ
  pub mem : ℕ → ℕ
  pub scopes : List Scope
  pub answers : ℕ → ℕ
  pub interpreter : ℕ → Interpreter

-- the state with x in c[k]
abbrev pub set_c : ℕ → ℕ → State → State
set_c k x z =
    record {
      c = update k x z.c;
      mem = z.mem;
      scopes = z.scopes;
      answers = z.answers;
      interpreter = z.interpreter;
    }

-- the state with other bytes of memory
abbrev pub set_mem : (ℕ → ℕ) → State → State
set_mem f z =
    record {
      c = z.c;
      mem = f;
      scopes = z.scopes;
      answers = z.answers;
      interpreter = z.interpreter;
    }

-- the state with other scopes
abbrev pub set_scopes : List Scope → State → State
set_scopes fs z =
    record {
      c = z.c;
      mem = z.mem;
      scopes = fs;
      answers = z.answers;
      interpreter = z.interpreter;
    }

-- the state after an answer of the runtime
abbrev pub answered : State → State
answered z =
    record {
      c = z.c;
      mem = z.mem;
      scopes = z.scopes;
      answers = λ k. z.answers (suc k);
      interpreter = z.interpreter;
    }

-- the answer of the next call of interp_one
abbrev pub interp_answer : State → ℕ
interp_answer z = (z.interpreter 0 z.c z.mem).answer

-- the state after that call; interpreter starts with the call after it
abbrev pub after_interp : State → State
after_interp z =
    let q : Interpreted = z.interpreter 0 z.c z.mem in
    record {
      c = q.c;
      mem = q.mem;
      scopes = z.scopes;
      answers = z.answers;
      interpreter = λ k. z.interpreter (suc k);
    }

-- the answers that guard and gate will give from the state y on are those from z on, but for the
-- first ones
abbrev pub Later : State → State → Type 0
Later z y = (j : ℕ) × ((i : ℕ) → y.answers i ≡ z.answers (j + i))

-- at {: a scope of its own, in which nothing is declared yet
abbrev pub enter : State → State
enter z = set_scopes (empty ∷ z.scopes) z

-- the scopes around the innermost one
abbrev pub outer : List Scope → List Scope
outer [] = []
outer (f ∷ fs) = fs

-- at }: the innermost scope ends
abbrev pub leave : State → State
leave z = set_scopes (outer z.scopes) z

-- a local declared in this scope, or else in one around it
abbrev pub or_else : Option Cell → Option Cell → Option Cell
or_else none y = y
or_else (some x) y = some x

-- the local with a name's number, of the innermost scope that declares it; none where no scope does
abbrev pub find : ℕ → List Scope → Option Cell
find k [] = none
find k (f ∷ fs) = or_else (f k) (find k fs)

-- the value of a local that the tree takes to have the type y: none where it is not declared,
-- declared with another type, or without a value
abbrev pub cell_value : Ty → Option Cell → Option ℕ
cell_value y none = none
cell_value y (some p) = cond (same_ty y p.0) p.1 none

-- what stands in a place; c has 17 words
abbrev pub value : Place → State → Option ℕ
value (reg k) z = cond (leb k 16) (some (z.c k)) none
value (var x) z = cell_value x.0 (find (index x.1) z.scopes)

-- a declaration without a value in the scope f, by what f has of that name; none where it has the
-- name already (6.7)
abbrev pub declare_in : Option Cell → Ty → ℕ → Scope → List Scope → Option (List Scope)
declare_in none y k f fs = some (update k (some (y, none)) f ∷ fs)
declare_in (some p) y k f fs = none

-- a declaration without a value, in the innermost scope; none also where there is no scope
abbrev pub declared : Var → List Scope → Option (List Scope)
declared x [] = none
declared x (f ∷ fs) = declare_in (f (index x.1)) x.0 (index x.1) f fs

-- `assigned` at the scope f, by what f has of that name; rest: the same of the scopes around f
abbrev pub assign_in : Option Cell → Ty → ℕ → ℕ → Scope → List Scope → Option (List Scope)
    → Option (List Scope)
assign_in none y k v f fs rest = bind rest λ gs. some (f ∷ gs)
assign_in (some p) y k v f fs rest =
    cond (same_ty y p.0) (some (update k (some (y, some v)) f ∷ fs)) none

-- a value given to a local, in the innermost scope that has it; none where it is not declared, or
-- with another type
abbrev pub assigned : Ty → ℕ → ℕ → List Scope → Option (List Scope)
assigned y k v [] = none
assigned y k v (f ∷ fs) = assign_in (f k) y k v f fs (assigned y k v fs)

-- a value put into a place
abbrev pub put : Place → ℕ → State → Option State
put (reg k) v z = cond (leb k 16) (some (set_c k v z)) none
put (var x) v z = bind (assigned x.0 (index x.1) v z.scopes) λ fs. some (set_scopes fs z)

-- the type of a place
abbrev pub place_ty : Place → Ty
place_ty (reg k) = u32
place_ty (var x) = x.0

-- byte i after address a; addresses wrap at 2^32
abbrev pub byte : (ℕ → ℕ) → ℕ → ℕ → ℕ
byte f a i = f ((a + i) % 2 ^ 32)

-- read8, read16 and read32: little-endian, zero-extended
abbrev pub load : Width → (ℕ → ℕ) → ℕ → ℕ
load w8 f a = f a
load w16 f a = f a + byte f a 1 * 2 ^ 8
load w32 f a = f a + byte f a 1 * 2 ^ 8 + byte f a 2 * 2 ^ 16 + byte f a 3 * 2 ^ 24

-- byte i of x put after address a
abbrev pub set_byte : ℕ → ℕ → ℕ → (ℕ → ℕ) → ℕ → ℕ
set_byte a x i = update ((a + i) % 2 ^ 32) (x / 2 ^ (8 * i) % 256)

-- write8, write16 and write32: little-endian, the low bits
abbrev pub store : Width → ℕ → ℕ → (ℕ → ℕ) → ℕ → ℕ
store w8 a x f = update a (x % 256) f
store w16 a x f = set_byte a x 1 (update a (x % 256) f)
store w32 a x f = set_byte a x 3 (set_byte a x 2 (set_byte a x 1 (update a (x % 256) f)))

-- the innermost scope has a local, with its type
abbrev pub Declares : List Scope → Var → Type 0
Declares [] x = ⊥
Declares (f ∷ fs) x = (v : Option ℕ) × (f (index x.1) ≡ some (x.0, v))
