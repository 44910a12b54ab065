-- Examples: the call for exits on document 01's three blocks, computed.
use Rattle.std.specs.Prelude.{◌≡◌, refl, [], ◌∷◌}
use Rattle.call_frame.specs.Answer.{refusal, value}
use Rattle.file_blocks.specs.Parse.{Parsed}
use Rattle.plan_exits.specs.Examples.{arm_block, three_blocks}
use Rattle.plan_exits.specs.Exits.{exits, instr_exits}
use Rattle.call_frame.specs.Frame.{call_on_blocks, call_frame}
use Rattle.call_exits.specs.Calls.{exits_call, exits_numbers}

-- exits of a block that there is, and of one that there is not
exits_found : exits_call 0 (Parsed.accepted three_blocks) ≡ value (0x0800_0008 ∷ [])
unfolding call_frame call_on_blocks exits instr_exits three_blocks arm_block
exits_found = refl

exits_missing : exits_call 3 (Parsed.accepted three_blocks) ≡ refusal 9 0
unfolding call_frame call_on_blocks three_blocks
exits_missing = refl

-- a refused file
exits_refused : exits_numbers (exits_call 0 (Parsed.refused 4 2)) ≡ 4 ∷ 2 ∷ 0 ∷ 0 ∷ 0 ∷ []
unfolding call_frame
exits_refused = refl
