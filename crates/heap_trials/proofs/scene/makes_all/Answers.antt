use Rattle.std.proofs.Common.{refl}
use Rattle.store_model.specs.declared.store_handle.DescKind.TheVariants.{Ppi, Callback, Dispatch}
use Rattle.heap_trials.proofs.Stays.{at_kept}
use Rattle.heap_trials.proofs.scene.makes_all.Goals as goal

pub returns : goal.returns
returns g c e =
    let one = c.if-not-makes.ensures c.requires.0 c.requires.1 refl in
    let two = c.if-not-makes-2.ensures one.0 one.1 refl in
    let three = c.if-not-makes-3.ensures two.0 two.1 refl in
    let four = c.makes-4.ensures three.0 three.1 e in (
      four.0,
      four.1,
      record {
        installed = at_kept three.0 four.0 Ppi 0x40 four.2 (at_kept two.0 three.0 Ppi 0x40 three.2 (at_kept one.0 two.0 Ppi 0x40 two.2 one.3));
        dispatch = at_kept three.0 four.0 Dispatch 0x70 four.2 (at_kept two.0 three.0 Dispatch 0x70 three.2 two.3);
        callback = at_kept three.0 four.0 Callback 0xa0 four.2 three.3;
        other = four.3;
      },
    )
