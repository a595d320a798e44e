use Rattle.std.proofs.Common.{◌≡◌, ◌≤◌, ◌-◌, arith, Bool, List, [], ◌∷◌, length, get_or, take, drop, ap, ◌∙◌}
use Rattle.std.proofs.Math.Seq.{take-length}
use Rattle.pi_base.specs.declared.guid.Guid.{Guid}
use Rattle.depex_code.specs.declared.opcode.Opcode.{Opcode}
use Rattle.recorded_boot.specs.{Against.is_installed, Code.lacking_from, Code.more_lacking}
use Rattle.recorded_boot.proofs.follow.lacking.lacking_in.Goals as goal

-- one opcode on
lacking_on : (has : Guid → Bool) (found new all : List Guid) (code : List Opcode) (d : Opcode) → 1 ≤ length code
    → new ≡ more_lacking has found (get_or code 0 d) → lacking_from has found code ≡ all
    → lacking_from has new (take (length code - 1) (drop 1 code)) ≡ all
lacking_on has found new all [] d some is so_far = absurd (omega (arith, some))
lacking_on has found new all (opcode ∷ code) d some is so_far =
    let many : length (opcode ∷ code) - 1 ≡ length code = omega arith in
    ap (λ n. lacking_from has new (take n code)) many ∙ ap (lacking_from has new) (take-length code)
    ∙ ap (λ found. lacking_from has found code) is ∙ so_far

pub opcodes-preserved : goal.opcodes-preserved
opcodes-preserved g c = λ s stands. lacking_on (is_installed c.args.phase s c.args.installed.now.handles.now) c.opcodes.found
    c.note_pushed.new.found _ c.opcodes.rest.now _ c.in-len1-up.len_at_least
    (c.in_ok-note_pushed.ensures s stands tt) (c.opcodes.invariant s stands)
