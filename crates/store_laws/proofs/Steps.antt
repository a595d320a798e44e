-- What holds of every state is kept where an entry or a queued pair is added, and where a PPI names another descriptor.
use Rattle.std.proofs.Common.{◌≡◌, ◌≢◌, ℕ, ◌==◌, Bool, true, false, cond, List, [], ◌∷◌, ◌++◌, arith, sym, refl, ap, subst, map}
use Rattle.pi_base.specs.Lists.{Each}
use Rattle.store_model.specs.{declared.store_handle.DescKind.DescKind, declared.store_handle.Desc.Desc, declared.state.Entry.Entry}
use Rattle.store_model.specs.declared.store_handle.DescKind.TheVariants.{Ppi, Callback, Dispatch}
use Rattle.store_model.specs.{declared.state.Pending.Pending, declared.state.Body.TheVariants.Node, Service.Descriptor.kind_at}
use Rattle.store_model.specs.StoreState.{Board, StoreState, handoff_len, next_body, pool_of}
use Rattle.store_model.specs.StateFacts.{IsDescriptorAt, IsEntry, IsHobEntry, IsNodeAt}
use Rattle.store_model.specs.Service.Install.{renamed, with_node, with_pending, with_ppi}
use Rattle.store_model.specs.Service.Notify.{note_entry, with_note, with_note_of}
use Rattle.store_laws.specs.{Bodies.IsGrown, Keeping.IsWord, Steps.IsPair}
use Rattle.store_laws.proofs.{Bodies.grown_by, Bodies.new_body, Hobs.of_pool}
use Rattle.store_laws.proofs.Sound.{Differ, IsSound, all_new, appended_sound, callback_sound, descriptor_grows, dispatch_sound, node_of, pending_node, pending_sound, ppi_sound}

-- a node
pub grown_node : (s : StoreState) → IsGrown s (with_node s)
grown_node s = grown_by s (pool_of Node)

new_node : (s : StoreState) → IsNodeAt (with_node s) (next_body s)
new_node s = new_body s.hobs (pool_of Node) handoff_len (next_body s) refl

pub node_entry : (board : Board) (taken : ℕ) → IsHobEntry board taken (pool_of Node)
node_entry board taken = record {
  kind = omega arith;
  not_handoff = λ e. absurd (omega (arith, e));
  not_end = λ e. absurd (omega (arith, e));
  len = omega arith;
  aligned = refl;
  typed = of_pool 32;
  body = refl;
}

pub node_sound : (s : StoreState) → IsSound s → IsSound (with_node s)
node_sound s h = appended_sound s (pool_of Node) h (node_entry s.board s.taken)

-- a descriptor, behind a node more
behind_node : (s : StoreState) (kind : DescKind) (place : ℕ) → IsDescriptorAt s kind place → IsDescriptorAt (with_node s) kind place
behind_node s kind place is = descriptor_grows s (with_node s) kind (grown_node s) place is

-- an entry of the new node
pub new_entry : (s : StoreState) (kind : DescKind) (by place : ℕ) → IsWord by → IsDescriptorAt s kind place
    → IsEntry (with_node s) kind (record { node = next_body s; descriptor = place; by = by })
new_entry s kind by place word is = (new_node s, behind_node s kind place is, word)

pub with_ppi_sound : (by : ℕ) (s : StoreState) (d : Desc) → IsWord by → IsSound s → IsDescriptorAt s Ppi d.offset → IsSound (with_ppi by s d)
with_ppi_sound by s d word h is =
    let entry : Entry = record { node = next_body s; descriptor = d.offset; by = by } in
    ppi_sound (with_node s) entry (node_sound s h) (new_entry s Ppi by d.offset word is) (all_new s h)

pub with_pending_sound : (by : ℕ) (s : StoreState) (pair : ℕ × ℕ) → IsWord by → IsSound s → IsPair s pair → IsSound (with_pending by s pair)
with_pending_sound by s pair word h is =
    let pending : Pending = record { node = next_body s; descriptor = pair.1; ppi = pair.0; by = by } in
    pending_sound (with_node s) pending (node_sound s h) (new_node s, behind_node s Dispatch pair.1 is.note, behind_node s Ppi pair.0 is.ppi, word) (all_new s h)

-- a notification, of either kind
pub kind_is : (s : StoreState) (kind : DescKind) (place : ℕ) → IsDescriptorAt s kind place → kind_at s place ≡ kind
kind_is s kind place h = rw h.1 h.2

note_of_sound : (kind : DescKind) (by : ℕ) (s : StoreState) (d : Desc) → IsWord by → IsSound s → kind ≢ Ppi → IsDescriptorAt s kind d.offset
    → IsSound (with_note_of kind by s d) × IsGrown s (with_note_of kind by s d)
note_of_sound Ppi by s d word h other is = absurd (other refl)
note_of_sound Callback by s d word h other is =
    (callback_sound (with_node s) (note_entry s d by) (node_sound s h) (new_entry s Callback by d.offset word is) (all_new s h), grown_node s)
note_of_sound Dispatch by s d word h other is =
    (dispatch_sound (with_node s) (note_entry s d by) (node_sound s h) (new_entry s Dispatch by d.offset word is) (all_new s h), grown_node s)

pub with_note_sound : (kind : DescKind) (by : ℕ) (s : StoreState) (d : Desc) → IsWord by → IsSound s → kind ≢ Ppi → IsDescriptorAt s kind d.offset
    → IsSound (with_note by s d) × IsGrown s (with_note by s d)
with_note_sound kind by s d word h other is = rw (kind_is s kind d.offset is) (note_of_sound kind by s d word h other is)

-- a PPI in the place of another
entries_on : (s : StoreState) (new : ℕ) (b : Bool) (entry : Entry) (entries rest : List Entry) → IsDescriptorAt s Ppi new → IsEntry s Ppi entry → Each (IsEntry s Ppi) entries
    → Each (IsEntry s Ppi) rest → Each (IsEntry s Ppi) (cond b (record entry { descriptor = new } ∷ entries) (entry ∷ rest))
entries_on s new true entry entries rest is h each more = ((h.0, is, h.2), each)
entries_on s new false entry entries rest is h each more = (h, more)

renamed_each : (s : StoreState) (old new : ℕ) → IsDescriptorAt s Ppi new → (entries : List Entry) → Each (IsEntry s Ppi) entries → Each (IsEntry s Ppi) (renamed entries old new)
renamed_each s old new is [] h = tt
renamed_each s old new is (entry ∷ entries) h =
    entries_on s new (entry.descriptor == old) entry entries (renamed entries old new) is h.0 h.1 (renamed_each s old new is entries h.1)

nodes_on : (new : ℕ) (b : Bool) (entry : Entry) (entries rest : List Entry) → map node_of rest ≡ map node_of entries
    → map node_of (cond b (record entry { descriptor = new } ∷ entries) (entry ∷ rest)) ≡ entry.node ∷ map node_of entries
nodes_on new true entry entries rest e = refl
nodes_on new false entry entries rest e = ap (λ xs. entry.node ∷ xs) e

renamed_nodes : (old new : ℕ) (entries : List Entry) → map node_of (renamed entries old new) ≡ map node_of entries
renamed_nodes old new [] = refl
renamed_nodes old new (entry ∷ entries) = nodes_on new (entry.descriptor == old) entry entries (renamed entries old new) (renamed_nodes old new entries)

pub renamed_sound : (s : StoreState) (old new : ℕ) → IsSound s → IsDescriptorAt s Ppi new → IsSound (record s { ppis = renamed s.ppis old new })
renamed_sound s old new h is = record {
  ppis = renamed_each s old new is s.ppis h.ppis;
  callbacks = h.callbacks;
  dispatches = h.dispatches;
  pendings = h.pendings;
  nodes = subst Differ (ap (λ xs. xs ++ (map node_of s.callbacks ++ (map node_of s.dispatches ++ map pending_node s.pendings))) (sym (renamed_nodes old new s.ppis))) h.nodes;
  hobs = h.hobs;
  boot_mode = h.boot_mode;
  frame = h.frame;
}
