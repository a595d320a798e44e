-- Lists of ranges that grow at their end, and lists that come in the place of others.
use Rattle.std.specs.Prelude.{◌≡◌, ◌≢◌, ◌⊎◌, ℕ, ◌+◌, ◌-◌, ◌<◌, List, [], ◌∷◌, ◌++◌}
use Rattle.gcd_map.specs.{declared.state.SpaceState.SpaceState, declared.state.Effect.Effect, declared.range.GcdRange.GcdRange}
use Rattle.gcd_map.specs.{AddressSpace.changed, Stretch.AllIn}
use Rattle.gcd_map.specs.Ranges.{state_of, Cover, Differ}

-- the last range, if there is one, has another state
abbrev pub EndsOther : List GcdRange → SpaceState → Type 0
EndsOther ranges state = (front : List GcdRange) (last : GcdRange) → ranges ≡ front ++ last ∷ [] → state_of last ≢ state

-- the last range has this state
abbrev pub EndsWith : List GcdRange → SpaceState → Type 0
EndsWith ranges state = (front : List GcdRange) × (last : GcdRange) × (ranges ≡ front ++ last ∷ []) × (state_of last ≡ state)

-- the first range has this state
abbrev pub BeginsWith : List GcdRange → SpaceState → Type 0
BeginsWith [] state = ⊥
BeginsWith (range ∷ ranges) state = state_of range ≡ state

-- the last range of the list is removed if it has this state
abbrev pub Opens : List GcdRange → ℕ → SpaceState → List GcdRange → ℕ → Type 0
Opens old from state new base =
    ((old ≡ new) × (base ≡ from) × EndsOther old state)
    ⊎ ((last : GcdRange) × (old ≡ new ++ last ∷ []) × (base ≡ last.base) × (state_of last ≡ state))

-- the list continues from one address to another with a state
pub record Extends (old : List GcdRange) (from to : ℕ) (state : SpaceState) (new : List GcdRange) : Type 0 where
  pub covers : (space : ℕ → SpaceState) (start : ℕ) → Cover space start old from → AllIn space from to (λ s. s ≡ state)
      → Cover space start new to
  pub differ : Differ old → Differ new
  pub ends : from < to → EndsWith new state
  pub keeps : (first : SpaceState) → BeginsWith old first → BeginsWith new first
  pub begins : from < to → old ≡ [] → BeginsWith new state
  pub nothing : from ≡ to → new ≡ old

-- the states after the addresses from one on below another have changed
abbrev pub after : (ℕ → SpaceState) → ℕ → ℕ → Effect → ℕ → SpaceState
after space base end effect = changed space (record { base = base; len = end - base; effect = effect })

-- the list continues with a range in which those addresses have changed
pub record ExtendsBy (old : List GcdRange) (range : GcdRange) (base end : ℕ) (effect : Effect) (new : List GcdRange) : Type 0 where
  pub covers : (space : ℕ → SpaceState) (start : ℕ) → Cover (after space base end effect) start old range.base
      → AllIn space range.base (range.base + range.len) (λ s. s ≡ state_of range)
      → Cover (after space base end effect) start new (range.base + range.len)
  pub differ : Differ old → Differ new
  pub ends : 0 < range.len → end < range.base + range.len → EndsWith new (state_of range)
  pub keeps : (first : SpaceState) → BeginsWith old first → BeginsWith new first
  pub begins : 0 < range.len → range.base < base → old ≡ [] → BeginsWith new (state_of range)

-- ranges in the place of others after those addresses have changed; if the first of the others begins before the change, or the last ends after it, that part
-- keeps its state
pub record Replaces (old : List GcdRange) (base end : ℕ) (effect : Effect) (new : List GcdRange) : Type 0 where
  pub covers : (space : ℕ → SpaceState) (from to : ℕ) → Cover space from old to → Cover (after space base end effect) from new to
  pub differ : Differ new
  pub begins : (first : GcdRange) (rest : List GcdRange) → old ≡ first ∷ rest → 0 < first.len → first.base < base
      → BeginsWith new (state_of first)
  pub ends : (front : List GcdRange) (last : GcdRange) → old ≡ front ++ last ∷ [] → 0 < last.len → end < last.base + last.len
      → EndsWith new (state_of last)
  pub nothing : old ≡ [] → new ≡ []
