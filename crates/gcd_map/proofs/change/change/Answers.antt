use Rattle.std.proofs.Common.{◌≡◌, ◌⊎◌, ◌+◌, ◌<◌, List, length, take, drop, sym, ap, ◌∙◌, subst, arith}
use Rattle.std.specs.List.{splice}
use Rattle.gcd_map.specs.{declared.range.GcdRange.GcdRange, Growing.Replaces, Growing.after, Tests.base_at, Tests.IsRangeOf}
use Rattle.gcd_map.specs.Ranges.{Cover, Differ, DoesFit}
use Rattle.gcd_map.proofs.{Covers.begins_at_zero, Changes.on_ok, Splices.replaced, Splices.rest_begins}
use Rattle.gcd_map.proofs.Stretches.{covers_fit, each_drop, each_take}
use Rattle.gcd_map.proofs.change.change.Goals as goal

pub first_meeting-at-requires-clause-first : goal.first_meeting-at-requires-clause-first
first_meeting-at-requires-clause-first c =
    let covered = c.requires.covered in rw c.as_slice-old.ensures.value (begins_at_zero covered.0 covered.1 c.args.ranges.now.items covered.2)

pub index_of-count-requires-clause-first : goal.index_of-count-requires-clause-first
index_of-count-requires-clause-first c =
    let covered = c.requires.covered in let ranges = c.args.ranges.now.items in let at = c.first_meeting-at.result in
    let old : c.as_slice-old.result.now ≡ ranges = c.as_slice-old.ensures.value in
    let rest : c.from_index-rest.result.now ≡ drop at ranges = c.from_index-rest.ensures ∙ ap (drop at) old in
    let before : (at ≡ 0) ⊎ (base_at ranges at < c.args.base) = subst (λ (l : List GcdRange). (at ≡ 0) ⊎ (base_at l at < c.args.base)) old c.first_meeting-at.ensures.before in
    rw rest (rest_begins covered.0 covered.1 c.args.base c.args.end ranges at covered.2 before c.requires.order)

pub replacement-requires-clause-fit : goal.replacement-requires-clause-fit
replacement-requires-clause-fit c =
    let covered = c.requires.covered in let ranges = c.args.ranges.now.items in let at = c.first_meeting-at.result in let last = c.index_of-count.result in
    let rest : c.from_index-rest.result.now ≡ drop at ranges = c.from_index-rest.ensures ∙ ap (drop at) c.as_slice-old.ensures.value in
    let met : c.before_index-met.result.now ≡ take (last + 1) (drop at ranges) = c.before_index-met.ensures ∙ ap (take (last + 1)) rest in
    rw met (each_take DoesFit (drop at ranges) (last + 1) (each_drop DoesFit ranges at (covers_fit covered.0 0 covered.1 ranges covered.2 covered.4)))

pub returns-clause-covers : goal.returns-clause-covers
returns-clause-covers c =
    let ranges = c.args.ranges.now.items in let at = c.first_meeting-at.result in let last = c.index_of-count.result in
    let base = c.args.base in let end = c.args.end in let effect = c.args.effect in let new = c.in_ok-new.new in
    let old : c.as_slice-old.result.now ≡ ranges = c.as_slice-old.ensures.value in
    let rest : c.from_index-rest.result.now ≡ drop at ranges = c.from_index-rest.ensures ∙ ap (drop at) old in
    let met : c.before_index-met.result.now ≡ take (last + 1) (drop at ranges) = c.before_index-met.ensures ∙ ap (take (last + 1)) rest in
    let is : IsRangeOf (drop at ranges) end last = subst (λ (l : List GcdRange). IsRangeOf l end last) rest c.index_of-count.ensures in
    let within : at < length ranges = subst (λ (l : List GcdRange). at < length l) old c.first_meeting-at.ensures.within in
    let before : (at ≡ 0) ⊎ (base_at ranges at < base) = subst (λ (l : List GcdRange). (at ≡ 0) ⊎ (base_at l at < base)) old c.first_meeting-at.ensures.before in
    let so : Replaces (take (last + 1) (drop at ranges)) base end effect new = subst (λ (l : List GcdRange). Replaces l base end effect new) met c.in_ok-new.ensures in
    on_ok c.put.result _ _ (λ e space limit cover ends.
    subst (λ (l : List GcdRange). Cover (after space base end effect) 0 l limit) (sym (e ∙ ap (λ (l : List GcdRange). splice ranges at (at + (last + 1)) l) c.into_vec.ensures))
    (replaced space limit base end effect ranges at last (last + 1) new c.requires.order ends cover within before is (omega arith) so).0) c.put.ensures.ok

pub returns-clause-differ : goal.returns-clause-differ
returns-clause-differ c =
    let ranges = c.args.ranges.now.items in let at = c.first_meeting-at.result in let last = c.index_of-count.result in
    let base = c.args.base in let end = c.args.end in let effect = c.args.effect in let new = c.in_ok-new.new in
    let covered = c.requires.covered in
    let old : c.as_slice-old.result.now ≡ ranges = c.as_slice-old.ensures.value in
    let rest : c.from_index-rest.result.now ≡ drop at ranges = c.from_index-rest.ensures ∙ ap (drop at) old in
    let met : c.before_index-met.result.now ≡ take (last + 1) (drop at ranges) = c.before_index-met.ensures ∙ ap (take (last + 1)) rest in
    let is : IsRangeOf (drop at ranges) end last = subst (λ (l : List GcdRange). IsRangeOf l end last) rest c.index_of-count.ensures in
    let within : at < length ranges = subst (λ (l : List GcdRange). at < length l) old c.first_meeting-at.ensures.within in
    let before : (at ≡ 0) ⊎ (base_at ranges at < base) = subst (λ (l : List GcdRange). (at ≡ 0) ⊎ (base_at l at < base)) old c.first_meeting-at.ensures.before in
    let so : Replaces (take (last + 1) (drop at ranges)) base end effect new = subst (λ (l : List GcdRange). Replaces l base end effect new) met c.in_ok-new.ensures in
    on_ok c.put.result _ _ (λ e d.
    subst Differ (sym (e ∙ ap (λ (l : List GcdRange). splice ranges at (at + (last + 1)) l) c.into_vec.ensures))
    ((replaced covered.0 covered.1 base end effect ranges at last (last + 1) new c.requires.order covered.3 covered.2 within before is (omega arith) so).1 d)) c.put.ensures.ok
