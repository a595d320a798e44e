use Rattle.std.proofs.Common.{◌≡◌, ◌+◌, refl, ap, ◌∙◌, subst}
use Rattle.gcd_map.specs.{declared.state.SpaceState.SpaceState, AddressSpace.after_effect, Ranges.state_of, Growing.Extends}
use Rattle.gcd_map.proofs.Changes.{on_ok, extended_by}
use Rattle.gcd_map.proofs.change.extend_by.Goals as goal

pub returns : goal.returns
returns c =
    let to = c.args.range.base + c.args.range.len in
    let low = c.min-low.result in
    let high = c.min-high.result in
    let state : c.state-state.result ≡ state_of c.args.range = c.state-state.ensures in
    let changed : c.on.result ≡ after_effect c.args.effect (state_of c.args.range) = c.on.ensures ∙ ap (after_effect c.args.effect) state in
    on_ok c.extend-3.result _ _ (λ e.
    extended_by c.args.ranges.now c.extend.new.ranges c.extend-2.new.ranges c.extend-3.new.ranges c.args.range c.args.base c.args.end to low high
    c.args.effect c.requires.order refl (cc) (cc)
    (subst (λ (s : SpaceState). Extends c.args.ranges.now c.args.range.base low s c.extend.new.ranges) state c.in_ok-extend.ensures)
    (subst (λ (s : SpaceState). Extends c.extend.new.ranges low high s c.extend-2.new.ranges) changed c.in_ok-extend-2.ensures)
    (subst (λ (s : SpaceState). Extends c.extend-2.new.ranges high to s c.extend-3.new.ranges) state e)) c.extend-3.ensures
