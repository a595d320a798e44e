use Rattle.std.proofs.Common.{ℕ, List, Option, None, length, is_some, sym, ap, ◌∙◌, refl, slice_index_or}
use Rattle.mod_catalog.proofs.KeptNames.{within_places, kept_unknown, kept_again, kept_first}
use Rattle.mod_catalog.proofs.ranks.keep.Goals as goal

pub returns-in_default-clause-kept : goal.returns-in_default-clause-kept
returns-in_default-clause-kept c = λ list before. kept_unknown c.args.bearers.now list c.args.name c.args.kept.now c.in_default.ensures before

pub returns-then-is_some-clause-kept : goal.returns-then-is_some-clause-kept
returns-then-is_some-clause-kept c = λ list before.
    kept_again c.args.bearers.now list c.args.name c.in-Some.bearer c.args.kept.now c.in-Some.ensures
    (sym (ap (λ (l : List (Option ℕ)). is_some (slice_index_or l c.in-Some.bearer.index None)) c.as_slice.ensures) ∙ sym (ap is_some c.place_at.ensures) ∙ sym c.is_some.ensures ∙ c.if-is_some.true) before

pub set-requires : goal.set-requires
set-requires c = within_places c.args.bearers.now (length c.args.kept.now.places) c.requires.borne c.args.name c.in-Some.bearer c.in-Some.ensures

pub returns-clause-kept : goal.returns-clause-kept
returns-clause-kept c = λ list before.
    kept_first c.args.bearers.now list c.args.name c.in-Some.bearer c.args.kept.now _ c.requires.borne c.in-Some.ensures
    (sym (ap (λ (l : List (Option ℕ)). is_some (slice_index_or l c.in-Some.bearer.index None)) c.as_slice.ensures) ∙ sym (ap is_some c.place_at.ensures) ∙ sym c.is_some.ensures ∙ c.if-is_some.false) c.set.ensures refl before
