-- What an entry or a queued pair names is a descriptor, and a notification's number is an entry.
use Rattle.std.proofs.Common.{◌≡◌, ◌≢◌, ℕ, ◌<◌, true, refl, subst, ap, Some, sym, option_map, slice_get, is_some, unwrap_or}
use Rattle.store_model.specs.{declared.limits.TheConstants.NOTE_NUMBERS, declared.store_handle.Desc.Desc}
use Rattle.store_model.specs.{declared.store_handle.DescKind.DescKind, declared.state.Entry.Entry, declared.state.Pending.Pending}
use Rattle.store_model.specs.declared.store_handle.DescKind.TheVariants.{Ppi, Callback, Dispatch}
use Rattle.store_model.specs.{declared.state.DescriptorBody.DescriptorBody, declared.state.Body.TheVariants.Descriptor}
use Rattle.store_model.specs.{StoreState.StoreState, Service.Reading.notes_of}
use Rattle.store_model.specs.StateFacts.{IsDesc, IsDescriptorAt, IsEntry, IsPending, IsNumberOf, IsStoreState}
use Rattle.store_model.specs.Service.Descriptor.{descriptor_at, descriptor_in, kind_at, number_at}
use Rattle.store_laws.specs.Named.{IsNamed, NamedAreThere}
use Rattle.store_laws.proofs.{Items.each_at, Fits.body_is_of, Steps.kind_is}

pub named : (s : StoreState) (kind : DescKind) (place : ℕ) → IsStoreState s → IsDescriptorAt s kind place → IsNamed s kind place
named s kind place facts h =
    let d : DescriptorBody = h.0 in
    let body = body_is_of s place (Descriptor d) facts h.1 in
    let number : IsNumberOf kind d.number = subst (λ k. IsNumberOf k d.number) h.2 body.1.2 in
    let same : d.number ≡ number_at s place = ap (λ o. unwrap_or (option_map (λ found. found.number) (descriptor_in o)) 0) (sym h.1) in
    record { there = h; kind_is = kind_is s kind place h; number_is = subst (IsNumberOf kind) same number }

ppi_named : (s : StoreState) (place : ℕ) (entry : Entry) → IsStoreState s → slice_get s.ppis place ≡ Some entry → IsNamed s Ppi entry.descriptor
ppi_named s place entry facts e = let told : IsEntry s Ppi entry = each_at (IsEntry s Ppi) s.ppis place entry facts.ppis e in named s Ppi entry.descriptor facts told.1

callback_named : (s : StoreState) (place : ℕ) (entry : Entry) → IsStoreState s → slice_get s.callbacks place ≡ Some entry → IsNamed s Callback entry.descriptor
callback_named s place entry facts e = let told : IsEntry s Callback entry = each_at (IsEntry s Callback) s.callbacks place entry facts.callbacks e in named s Callback entry.descriptor facts told.1

dispatch_named : (s : StoreState) (place : ℕ) (entry : Entry) → IsStoreState s → slice_get s.dispatches place ≡ Some entry → IsNamed s Dispatch entry.descriptor
dispatch_named s place entry facts e = let told : IsEntry s Dispatch entry = each_at (IsEntry s Dispatch) s.dispatches place entry facts.dispatches e in named s Dispatch entry.descriptor facts told.1

pending_told : (s : StoreState) (place : ℕ) (pending : Pending) → IsStoreState s → slice_get s.pendings place ≡ Some pending → IsPending s pending
pending_told s place pending facts e = each_at (IsPending s) s.pendings place pending facts.pendings e

desc_is : (s : StoreState) (d : Desc) → IsDesc s d → IsDescriptorAt s (kind_at s d.offset) d.offset
desc_is s d h = (h.0, h.1, rw h.1 refl)

pub all_named : NamedAreThere
all_named = record {
  ppi = ppi_named;
  callback = callback_named;
  dispatch = dispatch_named;
  pending = λ s place pending facts e. let told = pending_told s place pending facts e in record { note = named s Dispatch pending.descriptor facts told.1; ppi = named s Ppi pending.ppi facts told.2 };
  desc = λ s d facts is. named s (kind_at s d.offset) d.offset facts (desc_is s d is);
}

-- the same in the words of a search
is_named : (s : StoreState) (kind : DescKind) (place : ℕ) → IsDescriptorAt s kind place → is_some (descriptor_at s place) ≡ true
is_named s kind place h = rw h.1 refl

pub entry_of : (kind : DescKind) (number : ℕ) → kind ≢ Ppi → IsNumberOf kind number → number < NOTE_NUMBERS
entry_of Ppi number other h = absurd (other refl)
entry_of Callback number other h = h
entry_of Dispatch number other h = h

pub ppi_is_named : (s : StoreState) (place : ℕ) (entry : Entry) → IsStoreState s → slice_get s.ppis place ≡ Some entry → is_some (descriptor_at s entry.descriptor) ≡ true
ppi_is_named s place entry facts e = is_named s Ppi entry.descriptor (ppi_named s place entry facts e).there

pub callback_is_entry : (s : StoreState) (place : ℕ) (entry : Entry) → IsStoreState s → slice_get s.callbacks place ≡ Some entry → number_at s entry.descriptor < NOTE_NUMBERS
callback_is_entry s place entry facts e = (callback_named s place entry facts e).number_is

note_told : (s : StoreState) (kind : DescKind) (place : ℕ) (entry : Entry) → IsStoreState s → slice_get (notes_of s kind) place ≡ Some entry → IsNamed s kind entry.descriptor × (kind ≢ Ppi)
note_told s Ppi place entry facts e = cc
note_told s Callback place entry facts e = (callback_named s place entry facts e, λ x. cc)
note_told s Dispatch place entry facts e = (dispatch_named s place entry facts e, λ x. cc)

pub note_is_named : (s : StoreState) (kind : DescKind) (place : ℕ) (entry : Entry) → IsStoreState s → slice_get (notes_of s kind) place ≡ Some entry → is_some (descriptor_at s entry.descriptor) ≡ true
note_is_named s kind place entry facts e = is_named s kind entry.descriptor (note_told s kind place entry facts e).0.there

pub note_is_entry : (s : StoreState) (kind : DescKind) (place : ℕ) (entry : Entry) → IsStoreState s → slice_get (notes_of s kind) place ≡ Some entry → number_at s entry.descriptor < NOTE_NUMBERS
note_is_entry s kind place entry facts e = let told = note_told s kind place entry facts e in entry_of kind (number_at s entry.descriptor) told.1 told.0.number_is

pub pending_is_named : (s : StoreState) (place : ℕ) (pending : Pending) → IsStoreState s → slice_get s.pendings place ≡ Some pending → is_some (descriptor_at s pending.ppi) ≡ true
pending_is_named s place pending facts e = is_named s Ppi pending.ppi (pending_told s place pending facts e).2

pub pending_is_entry : (s : StoreState) (place : ℕ) (pending : Pending) → IsStoreState s → slice_get s.pendings place ≡ Some pending → number_at s pending.descriptor < NOTE_NUMBERS
pending_is_entry s place pending facts e = (all_named.pending s place pending facts e).note.number_is
