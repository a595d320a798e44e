-- The bytes of HOBs, each body spelled by its place, and what a body more or another body changes of them.
-- Own.
use Rattle.std.specs.Prelude.{◌≡◌, ◌≢◌, ℕ, ◌+◌, ◌-◌, List, [], ◌∷◌, ◌++◌, length, take, drop, sum_by, Some}
use Rattle.phys_mem.specs.Region.{replaced}
use Rattle.pi_base.specs.Lists.{Each}
use Rattle.store_model.specs.{declared.state.Body.Body, declared.state.HobEntry.HobEntry, HeapImage.header_bytes}
use Rattle.store_model.specs.StoreState.{header_len, hob_len, body_len, body_from, with_body}

-- the HOBs, of which the first is at `at`
abbrev pub spelled : (ℕ → Body → List ℕ) → ℕ → List HobEntry → List ℕ
spelled spell at [] = []
spelled spell at (hob ∷ hobs) = header_bytes hob.kind (hob_len hob) ++ spell (at + header_len) hob.body
    ++ spelled spell (at + hob_len hob) hobs

-- each body is spelled by as many bytes as it has
abbrev pub AreSpelled : (ℕ → Body → List ℕ) → List HobEntry → Type 0
AreSpelled spell hobs = Each (λ hob. (place : ℕ) → length (spell place hob.body) ≡ body_len hob.body) hobs

-- two spellings agree but at a place
abbrev pub AgreeBut : ℕ → (ℕ → Body → List ℕ) → (ℕ → Body → List ℕ) → Type 0
AgreeBut p f g = (place : ℕ) (body : Body) → place ≢ p → g place body ≡ f place body

abbrev pub BodiesAreRead : Type 0
BodiesAreRead = (spell : ℕ → Body → List ℕ) (hobs : List HobEntry) (at p : ℕ) (body : Body) (tail : List ℕ) → AreSpelled spell hobs
    → body_from at hobs p ≡ Some body
    → take (body_len body) (drop (p - at) (spelled spell at hobs ++ tail)) ≡ spell p body

abbrev pub BodiesAreWritten : Type 0
BodiesAreWritten = (f g : ℕ → Body → List ℕ) (change : Body → Body) (hobs : List HobEntry) (at p : ℕ) (body : Body) → AreSpelled f hobs
    → AgreeBut p f g → body_from at hobs p ≡ Some body
    → body_len (change body) ≡ body_len body → length (g p (change body)) ≡ body_len body
    → spelled g at (with_body change at hobs p) ≡ replaced (spelled f at hobs) (p - at) (g p (change body))

abbrev pub HobsAreAppended : Type 0
HobsAreAppended = (spell : ℕ → Body → List ℕ) (hobs : List HobEntry) (hob : HobEntry) (at end : ℕ) → end ≡ at + sum_by hob_len hobs
    → spelled spell at (hobs ++ hob ∷ [])
    ≡ spelled spell at hobs ++ header_bytes hob.kind (hob_len hob) ++ spell (end + header_len) hob.body
