use Rattle.std.proofs.Common.{◌<◌, ◌∷◌, ◌∙◌, ap, arith, length, subst, sym}
use Rattle.boot_model.specs.PeiMachine.{no_registers}
use Rattle.phase_parts.specs.{Found.blocks_of, Frames.frame_at}
use Rattle.phase_parts.proofs.Blocks.{begin, stay}
use Rattle.phase_parts.proofs.start.begin_script.Goals as goal

pub begin-requires : goal.begin-requires
begin-requires g c = (grind arith, subst (λ frames. length frames < 64) (sym c.requires.none) (omega arith))

pub returns-then-runs : goal.returns-then-runs
returns-then-runs g c = record {
  frames = begin c.args.number (blocks_of c.args.phase c.args.catalog.now c.args.number) c.begin.new.self (sym c.if-runs.ensures)
      (c.begin.ensures ∙ ap (λ frame. frame ∷ c.args.frames.now) c.frame_at.ensures ∙ ap (λ below. frame_at c.args.number 0 no_registers ∷ below) c.requires.none);
  runs = c.has_block-runs.ensures;
}

pub returns-else-runs : goal.returns-else-runs
returns-else-runs g c = record {
  frames = stay c.args.number (blocks_of c.args.phase c.args.catalog.now c.args.number) c.args.frames.now (sym c.if-runs.ensures) c.requires.none;
  runs = c.has_block-runs.ensures;
}
