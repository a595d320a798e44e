-- Each step of a service keeps what holds of every state where it has room, and takes what its HOB has.
use Rattle.std.proofs.Common.{◌≡◌, ◌≢◌, ℕ, ◌+◌, ◌-◌, ◌≤◌, arith, refl}
use Rattle.std.proofs.lemmas.List.Sums.{sum_by_push}
use Rattle.store_model.specs.{declared.store_handle.DescKind.DescKind, declared.store_handle.Desc.Desc}
use Rattle.store_model.specs.declared.store_handle.DescKind.TheVariants.{Ppi, Callback, Dispatch}
use Rattle.store_model.specs.{declared.state.Body.TheVariants.Node, declared.state.HobEntry.HobEntry}
use Rattle.store_model.specs.StoreState.{StoreState, appended, end_place, free, hob_len, page_bytes, pool_of}
use Rattle.store_model.specs.{StateFacts.IsDescOf, StateFacts.IsHobEntry, Service.Notify.with_note, Service.Notify.with_note_of}
use Rattle.store_model.specs.Service.Install.{renamed, with_node, with_pending, with_ppi}
use Rattle.store_laws.specs.{Bodies.IsGrown, Keeping.IsWord}
use Rattle.store_laws.specs.Steps.{HasRoom, IsPair, IsStep, StepsKeepFacts}
use Rattle.store_laws.proofs.Bodies.{grown_by}
use Rattle.store_laws.proofs.Sound.{IsRoomy, IsSound, appended_sound, facts_of, sound_of}
use Rattle.store_laws.proofs.Steps.{grown_node, kind_is, node_sound, renamed_sound, with_note_sound, with_pending_sound, with_ppi_sound}

-- t has the heap of s, and its end HOB stands so much later
record IsLonger (s t : StoreState) (need : ℕ) : Type 0 where
  len : t.len ≡ s.len
  pages : page_bytes t.moved t.taken ≡ page_bytes s.moved s.taken
  end : end_place t ≡ end_place s + need

pushed : (s : StoreState) (hob : HobEntry) → IsLonger s (appended s hob) (hob_len hob)
pushed s hob = record { len = refl; pages = refl; end = let sum = sum_by_push hob_len s.hobs hob in omega (arith, sum) }

roomy_by : (len end last pages need : ℕ) → end + 8 + pages ≤ len → need ≤ len - 8 - end - pages → last ≡ end + need → last + 8 + pages ≤ len
roomy_by len end last pages need room fits e = omega (arith, room, fits, e)

free_by : (len end last pages need : ℕ) → end + 8 + pages ≤ len → need ≤ len - 8 - end - pages → last ≡ end + need → len - 8 - last - pages + need ≡ len - 8 - end - pages
free_by len end last pages need room fits e = omega (arith, room, fits, e)

roomy : (s t : StoreState) (need : ℕ) → HasRoom s need → IsLonger s t need → IsRoomy t
roomy s t need h l =
    let le = roomy_by s.len (end_place s) (end_place t) (page_bytes s.moved s.taken) need h.state.room h.room l.end in
    let len = l.len in
    let pages = l.pages in
    omega (arith, le, len, pages)

less : (s t : StoreState) (need : ℕ) → HasRoom s need → IsLonger s t need → free t + need ≡ free s
less s t need h l =
    let le = free_by s.len (end_place s) (end_place t) (page_bytes s.moved s.taken) need h.state.room h.room l.end in
    let len = l.len in
    let pages = l.pages in
    rw len (rw pages le)

step : (s t : StoreState) (need : ℕ) → HasRoom s need → IsLonger s t need → IsSound t → IsGrown s t → IsStep s t need
step s t need h l sound grown = record { state = facts_of t sound (roomy s t need h l); bodies = grown; free_is = less s t need h l }

hob_step : (s : StoreState) (hob : HobEntry) → HasRoom s (hob_len hob) → IsHobEntry s.board s.taken hob → IsStep s (appended s hob) (hob_len hob)
hob_step s hob h is = step s (appended s hob) (hob_len hob) h (pushed s hob) (appended_sound s hob (sound_of s h.state) is) (grown_by s hob)

node_longer : (s : StoreState) → IsLonger s (with_node s) 40
node_longer s = pushed s (pool_of Node)

-- the entries do not count
same_length : (s t : StoreState) → t.len ≡ s.len → t.moved ≡ s.moved → t.taken ≡ s.taken → end_place t ≡ end_place (with_node s) → IsLonger s t 40
same_length s t len moved taken end = record { len = len; pages = rw moved (rw taken refl); end = let last = (node_longer s).end in omega (arith, last, end) }

ppi_step : (s : StoreState) (by : ℕ) (d : Desc) → HasRoom s 40 → IsDescOf s Ppi d → IsWord by → IsStep s (with_ppi by s d) 40
ppi_step s by d h is word = step s (with_ppi by s d) 40 h (same_length s (with_ppi by s d) refl refl refl refl) (with_ppi_sound by s d word (sound_of s h.state) is) (grown_node s)

pending_step : (s : StoreState) (by : ℕ) (pair : ℕ × ℕ) → HasRoom s 40 → IsPair s pair → IsWord by → IsStep s (with_pending by s pair) 40
pending_step s by pair h is word =
    step s (with_pending by s pair) 40 h (same_length s (with_pending by s pair) refl refl refl refl) (with_pending_sound by s pair word (sound_of s h.state) is) (grown_node s)

note_length : (kind : DescKind) (s : StoreState) (by : ℕ) (d : Desc) → kind ≢ Ppi → IsLonger s (with_note_of kind by s d) 40
note_length Ppi s by d other = absurd (other refl)
note_length Callback s by d other = same_length s (with_note_of Callback by s d) refl refl refl refl
note_length Dispatch s by d other = same_length s (with_note_of Dispatch by s d) refl refl refl refl

note_step : (s : StoreState) (kind : DescKind) (by : ℕ) (d : Desc) → HasRoom s 40 → kind ≢ Ppi → IsDescOf s kind d → IsWord by → IsStep s (with_note by s d) 40
note_step s kind by d h other is word =
    let both = with_note_sound kind by s d word (sound_of s h.state) other is in
    let long : IsLonger s (with_note by s d) 40 = rw (kind_is s kind d.offset is) (note_length kind s by d other) in
    step s (with_note by s d) 40 h long both.0 both.1

pub all_steps : StepsKeepFacts
all_steps = record {
  hob = hob_step;
  node = λ s h. step s (with_node s) 40 h (node_longer s) (node_sound s (sound_of s h.state)) (grown_node s);
  ppi = ppi_step;
  note = note_step;
  pending = pending_step;
  rename = λ s old new h is. facts_of (record s { ppis = renamed s.ppis old.offset new.offset }) (renamed_sound s old.offset new.offset (sound_of s h) is) h.room;
}
