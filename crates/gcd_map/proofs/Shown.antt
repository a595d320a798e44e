-- The space that a map shows after a change.
use Rattle.std.proofs.Common.{◌≡◌, ℕ, ◌+◌, ◌-◌, ◌≤◌, List, [], ◌∷◌, sym, ap, ◌∙◌, subst, arith}
use Rattle.std.proofs.lemmas.List.Sums.{fold-append}
use Rattle.gcd_map.specs.{declared.state.SpaceState.SpaceState, declared.state.Effect.Effect, declared.range.GcdRange.GcdRange}
use Rattle.gcd_map.specs.AddressSpace.{MemorySpace, Change, changed, untouched, state_at, with_change}
use Rattle.gcd_map.specs.{Ranges.Cover, Ranges.Differ, Growing.after, SpaceMap.Shows}

pub shows_change : (limit : ℕ) (old new : List GcdRange) (space : MemorySpace) (base len : ℕ) (effect : Effect) → Shows (record { limit = limit; ranges = old }) space → base + len ≤ limit
    → ((s : ℕ → SpaceState) (l : ℕ) → Cover s 0 old l → base + len ≤ l → Cover (after s base (base + len) effect) 0 new l) → (Differ old → Differ new)
    → Shows (record { limit = limit; ranges = new }) (with_change space (record { base = base; len = len; effect = effect }))
shows_change limit old new space base len effect shows within covers differ =
    let change : Change = record { base = base; len = len; effect = effect } in
    let long : base + len - base ≡ len = omega arith in
    let same : after (state_at space) base (base + len) effect ≡ state_at (with_change space change) =
    ap (λ (n : ℕ). changed (state_at space) (record { base = base; len = n; effect = effect })) long ∙ sym (fold-append changed untouched space.changes (change ∷ [])) in
    let ends : base + len ≤ space.limit = omega (arith, within, shows.limit) in
    record {
      limit = shows.limit;
      some = shows.some;
      most = shows.most;
      ranges = record {
        covered = subst (λ (s : ℕ → SpaceState). Cover s 0 new space.limit) same (covers (state_at space) space.limit shows.ranges.covered ends);
        merged = differ shows.ranges.merged;
      };
    }
