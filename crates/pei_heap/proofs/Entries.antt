-- What an entry that is made names lies in the heap, and the state with it keeps the facts.
use Rattle.std.proofs.Common.{◌≡◌, ◌≢◌, ◌≤◌, ◌<◌, ◌+◌, ◌^◌, ℕ, Option, ap, arith, subst, ◌∙◌, option_map, unwrap_or}
use Rattle.store_model.specs.{declared.state.Body.Body, declared.state.Body.TheVariants.Descriptor}
use Rattle.store_model.specs.{declared.state.DescriptorBody.DescriptorBody, declared.store_handle.DescKind.DescKind}
use Rattle.store_model.specs.declared.store_handle.DescKind.TheVariants.{Ppi, Callback, Dispatch}
use Rattle.store_model.specs.{declared.store_handle.EntryList.EntryList, StoreState.StoreState}
use Rattle.store_model.specs.declared.store_handle.EntryList.TheVariants.{Ppis, Callbacks, Dispatches, Pendings}
use Rattle.store_model.specs.StateFacts.{IsDescriptorAt, IsStoreState}
use Rattle.store_model.specs.{Service.Descriptor.descriptor_in, Service.Descriptor.kind_at, Service.Notify.with_note_of}
use Rattle.store_laws.specs.{Bodies.BodiesAreInside, Keeping.IsWord, Steps.StepsKeepFacts}
use Rattle.store_laws.proofs.Facts.{has_room, heaps_are_low}
use Rattle.pei_heap.specs.{declared.links.entry.NewEntry.NewEntry, NewEntry.IsReady, NewEntry.with_entry}

low : (s : StoreState) (kind : DescKind) (place : ℕ) → BodiesAreInside → IsStoreState s → IsDescriptorAt s kind place → s.base + place < 2 ^ 64
low s kind place law h d =
    let inside = (law s place (Descriptor d.0) h d.1).before in
    let room = has_room s h in
    let end : s.base + s.len ≤ 0x10000000000 = heaps_are_low s h in
    omega (arith, inside, room, end)

kind_is : (s : StoreState) (kind : DescKind) (place : ℕ) → IsDescriptorAt s kind place → kind_at s place ≡ kind
kind_is s kind place d = ap (λ (body : Option Body). unwrap_or (option_map (λ (x : DescriptorBody). x.kind) (descriptor_in body)) Dispatch) d.1 ∙ d.2

pub still_state : (list : EntryList) (entry : NewEntry) (s : StoreState) → StepsKeepFacts → IsStoreState s → IsReady list entry s → IsWord entry.by → IsStoreState (with_entry list entry s)
still_state Ppis entry s law h ready by = (law.ppi s entry.by (record { offset = entry.descriptor }) (record { state = h; room = ready.room }) ready.names by).state
still_state Callbacks entry s law h ready by =
    let other : Callback ≢ Ppi = λ e. absurd cc in
    let step = law.note s Callback entry.by (record { offset = entry.descriptor }) (record { state = h; room = ready.room }) other ready.names by in
    subst (λ (kind : DescKind). IsStoreState (with_note_of kind entry.by s (record { offset = entry.descriptor }))) (kind_is s Callback entry.descriptor ready.names) step.state
still_state Dispatches entry s law h ready by =
    let other : Dispatch ≢ Ppi = λ e. absurd cc in
    let step = law.note s Dispatch entry.by (record { offset = entry.descriptor }) (record { state = h; room = ready.room }) other ready.names by in
    subst (λ (kind : DescKind). IsStoreState (with_note_of kind entry.by s (record { offset = entry.descriptor }))) (kind_is s Dispatch entry.descriptor ready.names) step.state
still_state Pendings entry s law h ready by =
    (law.pending s entry.by (entry.ppi, entry.descriptor) (record { state = h; room = ready.room }) (record { ppi = ready.names.0; note = ready.names.1 }) by).state
