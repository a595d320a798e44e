-- The move keeps HOBs' types and lengths, and so their places; the body at a place is that of before, moved.
use Rattle.std.proofs.Common.{◌≡◌, ℕ, ◌+◌, true, cond, List, [], ◌∷◌, Some, refl, ap, ◌∙◌, map, option_map}
use Rattle.store_model.specs.declared.state.Body.TheVariants.{Bytes, Descriptor}
use Rattle.store_model.specs.{declared.state.DescriptorBody.DescriptorBody, declared.state.HobEntry.HobEntry, HeapImage.descriptor_bytes}
use Rattle.pi_base.specs.Lists.{Each}
use Rattle.store_model.specs.StoreState.{StoreState, Range, hob_len, header_len, handoff_len, body_at}
use Rattle.store_model.specs.StateFacts.{IsStoreState, IsBoard, IsHobEntry}
use Rattle.store_model.specs.Migration.{migrated_to, moved_hobs, moved_body, moved_descriptor}
use Rattle.store_model.specs.Service.Descriptor.{is_named}
use Rattle.store_laws.proofs.{BodyLaws.all_stay, Moved.moved_len}

pub kinds_stay : (s : StoreState) (to : Range) (at : ℕ) (hobs : List HobEntry) → map (λ hob. hob.kind) (moved_hobs s to at hobs) ≡ map (λ hob. hob.kind) hobs
kinds_stay s to at [] = refl
kinds_stay s to at (hob ∷ hobs) = ap (λ kinds. hob.kind ∷ kinds) (kinds_stay s to (at + hob_len hob) hobs)

lengths_stay : (s : StoreState) (to : Range) (at : ℕ) (hobs : List HobEntry) → IsBoard s.board → Each (IsHobEntry s.board s.taken) hobs → map hob_len (moved_hobs s to at hobs) ≡ map hob_len hobs
lengths_stay s to at [] board h = refl
lengths_stay s to at (hob ∷ hobs) board h =
    ap (λ n. (header_len + n) ∷ map hob_len (moved_hobs s to (at + hob_len hob) hobs)) (moved_len s to (at + header_len) hob.kind hob.body board h.0.body)
    ∙ ap (λ ns. hob_len hob ∷ ns) (lengths_stay s to (at + hob_len hob) hobs board h.1)

pub moved_lengths : (s : StoreState) (to : Range) → IsStoreState s → map hob_len (migrated_to s to).hobs ≡ map hob_len s.hobs
moved_lengths s to facts = lengths_stay s to handoff_len s.hobs facts.board facts.hobs

-- the body at a place is that of before, moved
pub moved_at : (s : StoreState) (to : Range) (place : ℕ) → IsStoreState s → body_at (migrated_to s to) place ≡ option_map (moved_body s to place) (body_at s place)
moved_at s to place facts = all_stay.moved s to place facts

-- a descriptor that is named is one
pub moved_named : (s : StoreState) (to : Range) (place : ℕ) (d : DescriptorBody) → IsStoreState s → is_named s place ≡ true → body_at s place ≡ Some (Descriptor d)
    → body_at (migrated_to s to) place ≡ Some (Descriptor (moved_descriptor s to d))
moved_named s to place d facts is h =
    moved_at s to place facts ∙ ap (option_map (moved_body s to place)) h
    ∙ ap (λ b. Some (cond b (Descriptor (moved_descriptor s to d)) (Bytes (descriptor_bytes s.base place d)))) is
