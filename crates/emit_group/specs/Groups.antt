-- Steps: the text of a group of a file, by the numbers of its blocks.
use Rattle.std.specs.Prelude.{ℕ, Bool, List, map, get_or}
use Rattle.base_text.specs.Doc.{Doc, ◌▸◌}
use Rattle.base_hash.specs.Fnv.{hash_multiplier}
use Rattle.file_blocks.specs.Parse.{blocks_of}
use Rattle.c_tree.specs.Stmt.{label, end, ◌⨾◌}
use Rattle.c_tree.specs.Print.{code_text, unit_text}
use Rattle.lower_forms.specs.Block.{body_of}
use Rattle.lower_forms.specs.Forms.{Body}
use Rattle.lower_units.specs.Block.{body_key, nl, block_code}
use Rattle.lower_units.specs.Measured.{hashed_if}
use Rattle.lower_units.specs.Units.{emit_group, labelled, default_body, bodies_of}

-- the bodies of a file's blocks
abbrev pub file_bodies : List ℕ → List Body
file_bodies f = map (body_of hash_multiplier) (blocks_of f)

-- the code of block i, written or measured, where ks are the keys of its group
abbrev pub member_text : Bool → List ℕ → List ℕ → ℕ → Doc
member_text written f ks i =
    code_text (block_code ks (hashed_if written (get_or (file_bodies f) i default_body)))

-- the same with its label before it and a line end after
abbrev pub labelled_text : Bool → List ℕ → List ℕ → ℕ → Doc
labelled_text written f ks i =
    code_text (label (body_key (get_or (file_bodies f) i default_body)) ⨾ nl ⨾ end)
    ▸ member_text written f ks i ▸ code_text (nl ⨾ end)

-- the labelled code of some blocks, written or measured, where ks are the keys of their group
abbrev pub members_text : Bool → List ℕ → List ℕ → List ℕ → Doc
members_text written f ks is =
    code_text (labelled ks (map (hashed_if written) (bodies_of (file_bodies f) is)))

-- the functions of a group of some blocks, written or measured
abbrev pub group_text : Bool → List ℕ → List ℕ → Doc
group_text written f is = unit_text (emit_group (map (hashed_if written) (bodies_of (file_bodies f) is)))
