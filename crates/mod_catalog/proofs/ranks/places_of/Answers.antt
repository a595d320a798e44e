use Rattle.std.proofs.Common.{◌≤◌, ℕ, ◌*◌, ◌++◌, ◌∷◌, [], List, length, map, sym, ap, ◌∙◌, subst, arith}
use Rattle.pi_base.specs.{Guids.guid_at, Lists.numbers, declared.guid.Guid.Guid}
use Rattle.mod_catalog.specs.Ranks.{AreKept, kept_of, known}
use Rattle.mod_catalog.proofs.KeptNames.{next_number, few_kept}
use Rattle.mod_catalog.proofs.ranks.places_of.Goals as goal

pub keep-requires-clause-few : goal.keep-requires-clause-few
keep-requires-clause-few c =
    let borne = c.requires.borne in
    let names : List Guid = map (λ index. guid_at c.args.list.now (16 * index)) (numbers 0 c.names.index) in
    let few : length (kept_of (known c.args.bearers.now) names) ≤ length borne.1 = few_kept borne.0 borne.1 c.args.bearers.now names borne.2 in
    omega (arith, c.names.invariant.kept.count, few, borne.3, borne.4)

pub names-preserved : goal.names-preserved
names-preserved c =
    let name : ℕ → Guid = λ index. guid_at c.args.list.now (16 * index) in
    let before : List Guid = map name (numbers 0 c.names.index) in
    record {
      kept = subst (λ list. AreKept c.args.bearers.now list c.keep.new.kept) (ap (λ guid. before ++ guid ∷ []) c.at.ensures ∙ sym (next_number name c.names.index))
          (c.keep.ensures.kept before c.names.invariant.kept);
      len = c.keep.ensures.len ∙ c.names.invariant.len;
    }
