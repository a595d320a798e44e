-- What fires is a notification of a module, and its PPI is there.
use Rattle.std.proofs.Common.{◌≡◌, ◌≢◌, ℕ, zero, suc, ◌+◌, Bool, true, false, cond, List, [], ◌∷◌, sym, refl, subst, ◌∙◌, Option, Some, None, slice_get, option_map, option_and_then}
use Rattle.std.specs.Bool.{⊤}
use Rattle.store_model.specs.{declared.state.Body.TheVariants.Descriptor, declared.state.Body.TheVariants.Node, declared.state.Entry.Entry}
use Rattle.store_model.specs.{declared.state.Pending.Pending, declared.store_handle.DescKind.DescKind, declared.store_handle.Firing.Firing}
use Rattle.store_model.specs.declared.store_handle.DescKind.TheVariants.{Ppi, Callback, Dispatch}
use Rattle.store_model.specs.{declared.store_handle.Sweep.Sweep, StoreState.StoreState, StoreState.body_at, Service.Descriptor.number_at}
use Rattle.pi_base.specs.Lists.{Each}
use Rattle.store_model.specs.StateFacts.{IsStoreState, IsDescriptorAt, IsNumberOf, IsEntry, IsPending, IsSweepOf}
use Rattle.store_model.specs.Service.Sweep.{next_match, first_firing, firing_at, firing_of, have_one_guid, places_at, pairs_left}
use Rattle.store_model.specs.Service.Queue.{queue_pop, popped, zeroed}
use Rattle.store_laws.proofs.{Bodies.elsewhere, Named.named}
use Rattle.boot_model.specs.MachineFacts.{IsFiring}
use Rattle.boot_laws.specs.SoundRuns.{MatchesAreSound, PopsAreSound}

-- a notification's entry is a block of a module, and a PPI's value has 64 bits
pub number_of : (s : StoreState) (kind : DescKind) (place : ℕ) → IsStoreState s → IsDescriptorAt s kind place → IsNumberOf kind (number_at s place)
number_of s kind place facts is = (named s kind place facts is).number_is

nth_is : (s : StoreState) (kind : DescKind) (entries : List Entry) (n : ℕ) (entry : Entry) → Each (IsEntry s kind) entries → slice_get entries n ≡ Some entry → IsEntry s kind entry
nth_is s kind [] n entry each e = cc
nth_is s kind (first ∷ entries) zero entry each e = let same : first ≡ entry = cc in subst (λ x. IsEntry s kind x) same each.0
nth_is s kind (first ∷ entries) (suc n) entry each e = nth_is s kind entries n entry each.1 e

-- a pair that may fire
abbrev pub IsMatched : StoreState → Option (Firing × Sweep) → Type 0
IsMatched s None = ⊤
IsMatched s (Some pair) = IsFiring s pair.0 × IsSweepOf s pair.1

matched_or : (s : StoreState) (b : Bool) (one other : Option (Firing × Sweep)) → IsMatched s one → IsMatched s other → IsMatched s (cond b one other)
matched_or s true one other h k = h
matched_or s false one other h k = k

pair_matched : (s : StoreState) (sweep : Sweep) (pair : ℕ × ℕ) (ppi callback : Option Entry) → IsStoreState s → IsSweepOf s sweep
    → ((entry : Entry) → ppi ≡ Some entry → IsEntry s Ppi entry) → ((entry : Entry) → callback ≡ Some entry → IsEntry s Callback entry)
    → IsMatched s (option_map (λ (places : ℕ × ℕ). (firing_of s places.0 places.1, record sweep { ppi_at = pair.0; note_at = pair.1 + 1 })) (option_and_then (λ (found : Entry). option_map (λ (other : Entry). (found.descriptor, other.descriptor)) callback) ppi))
pair_matched s sweep pair None callback facts within f g = tt
pair_matched s sweep pair (Some ppi) None facts within f g = tt
pair_matched s sweep pair (Some ppi) (Some callback) facts within f g =
    let at = (f ppi refl).1 in
    (record { ppi = (at.0, at.1); value = number_of s Ppi ppi.descriptor facts at; entry = number_of s Callback callback.descriptor facts (g callback refl).1 }, record { ppis = within.ppis; notes = within.notes })

first_matched : (s : StoreState) (sweep : Sweep) (pairs : List (ℕ × ℕ)) → IsStoreState s → IsSweepOf s sweep → IsMatched s (first_firing s sweep pairs)
first_matched s sweep [] facts within = tt
first_matched s sweep (pair ∷ pairs) facts within =
    matched_or s (have_one_guid s (places_at s pair)) (firing_at s sweep pair) (first_firing s sweep pairs)
    (pair_matched s sweep pair (slice_get s.ppis pair.0) (slice_get s.callbacks pair.1) facts within
    (λ entry. nth_is s Ppi s.ppis pair.0 entry facts.ppis) (λ entry. nth_is s Callback s.callbacks pair.1 entry facts.callbacks))
    (first_matched s sweep pairs facts within)

pub match_sound : (s : StoreState) (sweep : Sweep) → IsStoreState s → IsSweepOf s sweep → IsMatched s (next_match s sweep)
match_sound s sweep facts within = first_matched s sweep (pairs_left sweep) facts within

pub matches_are_sound : MatchesAreSound
matches_are_sound s sweep later firing e facts within = let is : IsMatched s (Some (firing, later)) = subst (λ o. IsMatched s o) e (match_sound s sweep facts within) in is

-- the pair that leaves the queue
abbrev pub IsPopped : Option (Firing × StoreState) → Type 0
IsPopped None = ⊤
IsPopped (Some pair) = IsFiring pair.1 pair.0

first_popped : (s : StoreState) (pendings : List Pending) → IsStoreState s → Each (IsPending s) pendings → IsPopped (popped s pendings)
first_popped s [] facts each = tt
first_popped s (first ∷ rest) facts (pending, others) =
    let ppi = pending.2 in
    let other : first.ppi ≢ first.node = λ same. let here : body_at s first.node ≡ Some (Descriptor ppi.0) = subst (λ n. body_at s n ≡ Some (Descriptor ppi.0)) same ppi.1 in let twice : Some (Descriptor ppi.0) ≡ Some Node = sym here ∙ pending.0 in cc in
    record { ppi = (ppi.0, elsewhere zeroed s.hobs 56 first.node first.ppi Node pending.0 refl other ∙ ppi.1); value = number_of s Ppi first.ppi facts ppi; entry = number_of s Dispatch first.descriptor facts pending.1 }

pub pop_sound : (s : StoreState) → IsStoreState s → IsPopped (queue_pop s)
pop_sound s facts = first_popped s s.pendings facts facts.pendings

pub pops_are_sound : PopsAreSound
pops_are_sound s new firing e facts = let is : IsPopped (Some (firing, new)) = subst (λ o. IsPopped o) e (pop_sound s facts) in is
