-- Which GUIDs are among others.
use Rattle.std.proofs.Common.{◌≡◌, ℕ, Bool, true, false, cond, List, [], ◌∷◌, ◌∙◌, ap, sym, refl, ◌||◌, map, filter, not}
use Rattle.std.proofs.lemmas.Cmp.{nat_list_eq_equiv}
use Rattle.pi_base.specs.{declared.guid.Guid.Guid, Guids.same_guid, Lists.Each, Lists.firsts}
use Rattle.store_model.specs.{StoreState.StoreState, Service.Descriptor.guid_at}
use Rattle.boot_model.proofs.ListFacts.{each_more, has_later, has_here}
use Rattle.boot_laws.specs.ChangedGuids.{is_among}
use Rattle.boot_laws.proofs.LastingGuids.{has_in}

pub or_false : (b : Bool) → (b || false) ≡ b
or_false true = refl
or_false false = refl

pub or_left : (a b : Bool) → (a || b) ≡ false → a ≡ false
or_left true b e = cc
or_left false b e = refl

pub or_right : (a b : Bool) → (a || b) ≡ false → b ≡ false
or_right true b e = cc
or_right false b e = e

pub same_self : (guid : Guid) → same_guid guid guid ≡ true
same_self guid = nat_list_eq_equiv.refl guid.0

-- each is among themselves
pub each_among : (guids : List Guid) → Each (λ guid. is_among guid guids ≡ true) guids
each_among [] = tt
each_among (guid ∷ guids) =
    (has_here (same_guid guid guid) (is_among guid guids) (same_self guid), each_more (λ other. is_among other guids ≡ true) (λ other. is_among other (guid ∷ guids) ≡ true) guids (λ other e. has_later (same_guid guid other) (is_among other guids) e) (each_among guids))

-- the GUIDs of the descriptors at places
pub among_places : (s : StoreState) (guid : Guid) (places : List ℕ) → has_in s guid places ≡ is_among guid (map (guid_at s) places)
among_places s guid [] = refl
among_places s guid (place ∷ places) = ap (λ more. same_guid (guid_at s place) guid || more) (among_places s guid places)

-- one that another is not may be left out
left_out : (a guid : Guid) (others : List Guid) → same_guid a guid ≡ false → is_among guid (filter (λ b. not (same_guid a b)) others) ≡ is_among guid others
left_out a guid [] differ = refl
left_out a guid (b ∷ others) differ = by (same_guid a b) refl (left_out a guid others differ)
  where
    by : (t : Bool) → same_guid a b ≡ t → is_among guid (filter (λ c. not (same_guid a c)) others) ≡ is_among guid others
        → is_among guid (cond (not t) (b ∷ filter (λ c. not (same_guid a c)) others) (filter (λ c. not (same_guid a c)) others)) ≡ same_guid b guid || is_among guid others
    by false e rest = ap (λ more. same_guid b guid || more) rest
    by true e rest =
        let apart : same_guid b guid ≡ false = sym (nat_list_eq_equiv.congr a.0 b.0 guid.0 e) ∙ differ in
        rest ∙ ap (λ t. t || is_among guid others) (sym apart)

-- each once, the same are among them
pub among_firsts : (guid : Guid) (guids : List Guid) → is_among guid (firsts same_guid guids) ≡ is_among guid guids
among_firsts guid [] = refl
among_firsts guid (a ∷ rest) = by (same_guid a guid) refl (among_firsts guid rest)
  where
    by : (t : Bool) → same_guid a guid ≡ t → is_among guid (firsts same_guid rest) ≡ is_among guid rest
        → (t || is_among guid (filter (λ b. not (same_guid a b)) (firsts same_guid rest))) ≡ (t || is_among guid rest)
    by true e more = refl
    by false e more = left_out a guid (firsts same_guid rest) e ∙ more
