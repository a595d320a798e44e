use Rattle.std.proofs.Common.{◌≡◌, ◌++◌, ◌∷◌, [], length, ap, ◌∙◌}
use Rattle.phys_mem.specs.declared.rom.Rom.{Rom}
use Rattle.heap_trials.specs.declared.board.TheConstants.{VOLUME}
use Rattle.heap_trials.proofs.board.volumes.Goals as goal

pub returns : goal.returns
returns c =
    let rom : Rom = record { base = 0xff800000; bytes = c.append.new.self } in
    let bytes : c.append.new.self ≡ VOLUME = c.in_ok-append.ensures.ok ∙ ap (λ xs. xs ++ VOLUME) c.new-bytes.ensures in
    let roms : c.push.new.self ≡ rom ∷ [] = c.in_ok-push.ensures.ok ∙ ap (λ xs. xs ++ rom ∷ []) c.new-roms.ensures in
    (c.append.new.self, ap length bytes, roms)
