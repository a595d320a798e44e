use Rattle.std.proofs.Common.{◌∙◌, refl}
use Rattle.mem_store.proofs.named.Named.learn.Goals as goal

pub ppis-init : goal.ppis-init
ppis-init c = record { known = λ s h can. can.1; right = refl }

pub learn_one-requires : goal.learn_one-requires
learn_one-requires c =
    let s = c.requires.0 in
    let h = c.requires.1 in
    let can = c.requires.2 in
    (s, h, (can.0, c.ppis.invariant.known s h can))

pub ppis-preserved : goal.ppis-preserved
ppis-preserved c = record {
  known = λ s h can. c.learn_one.ensures.known s h (can.0, c.ppis.invariant.known s h can);
  right = c.learn_one.ensures.right ∙ c.ppis.invariant.right;
}
