-- One entry more is made, of those that are handed in.
use Rattle.std.proofs.Common.{◌≡◌, ◌≢◌, ◌∙◌, ◌<◌, ◌+◌, ℕ, List, length, get_or, ap, refl, sym, subst}
use Rattle.phys_mem.specs.declared.memory.PhysMem.{PhysMem}
use Rattle.store_model.specs.{declared.store_handle.Desc.Desc, declared.store_handle.DescKind.DescKind}
use Rattle.store_model.specs.declared.store_handle.DescKind.TheVariants.{Ppi, Callback, Dispatch}
use Rattle.store_model.specs.{declared.store_handle.EntryList.EntryList, declared.store_handle.EntryList.TheVariants.Ppis}
use Rattle.store_model.specs.{StoreState.StoreState, Service.Descriptor.kind_at, Service.Install.with_ppi}
use Rattle.store_model.specs.StateFacts.{IsDesc, IsDescOf, IsDescriptorAt}
use Rattle.store_model.specs.Service.Notify.{with_note, with_note_of}
use Rattle.store_laws.specs.{Keeping.IsWord, Steps.StepsKeepFacts}
use Rattle.pei_heap.specs.{declared.heap.Heap.Heap, declared.links.entry.NewEntry.NewEntry, declared.links.heads.Heads.Heads}
use Rattle.pei_heap.specs.Linked.{IsLinked}
use Rattle.pei_heap.specs.NewEntry.{IsOf, IsReady, with_entry}
use Rattle.heap_store.specs.Made.{CanMakeNotes, CanMakePpis, IsSame, note_list}
use Rattle.heap_store.proofs.HandedIn.{IsNote, each_note, kind_is, still_at}
use Rattle.heap_store.proofs.OnWay.{IsOnWay, each_at, one_more, room_on}

abbrev entry_of : Desc → ℕ → NewEntry
entry_of d by = record { descriptor = d.offset; ppi = 0; by = by }

-- a PPI
ppi_at : (heap : Heap) (memory : PhysMem) (heads : Heads) (s : StoreState) (list : List Desc) (by i : ℕ) (none : Desc) → CanMakePpis s list → (way : IsOnWay heap memory heads s (with_ppi by) list i) → i < length list
    → IsDescOf way.state Ppi (get_or list i none)
ppi_at heap memory heads s list by i none can way le =
    still_at s way.state Ppi (get_or list i none).offset way.made.step.bodies (each_at (IsDescOf s Ppi) list i none le can.ppis)

pub ppi_ready : (heap : Heap) (memory : PhysMem) (heads : Heads) (s : StoreState) (list : List Desc) (by i : ℕ) (none : Desc) → CanMakePpis s list → (way : IsOnWay heap memory heads s (with_ppi by) list i) → i < length list
    → IsReady Ppis (entry_of (get_or list i none) by) way.state
ppi_ready heap memory heads s list by i none can way le = record {
  names = ppi_at heap memory heads s list by i none can way le;
  room = (room_on heap memory heads s (with_ppi by) list i way can.room le).room;
}

pub ppi_more : (heap : Heap) (memory after : PhysMem) (heads ends : Heads) (s : StoreState) (list : List Desc) (by i : ℕ) (none : Desc) → StepsKeepFacts → IsWord by → CanMakePpis s list
    → (way : IsOnWay heap memory heads s (with_ppi by) list i) → i < length list → IsLinked heap after ends (with_ppi by way.state (get_or list i none)) → IsOnWay heap after ends s (with_ppi by) list (i + 1)
ppi_more heap memory after heads ends s list by i none law word can way le linked =
    let d = get_or list i none in
    let step = law.ppi way.state by d (room_on heap memory heads s (with_ppi by) list i way can.room le) (ppi_at heap memory heads s list by i none can way le) word in
    one_more heap memory after heads ends s (with_ppi by) list i none way le linked step (record { board = refl; planned = refl; moved = refl; taken = refl })

-- a notification
note_at : (heap : Heap) (memory : PhysMem) (heads : Heads) (s : StoreState) (list : List Desc) (by i : ℕ) (none : Desc) → CanMakeNotes s list → (way : IsOnWay heap memory heads s (with_note by) list i) → i < length list
    → IsNote way.state (get_or list i none)
note_at heap memory heads s list by i none can way le =
    let note = each_at (IsNote s) list i none le (each_note s list can.descs can.notes) in
    record { kind = note.kind; at = still_at s way.state note.kind (get_or list i none).offset way.made.step.bodies note.at; other = note.other }

note_kind : (t : StoreState) (d : Desc) (note : IsNote t d) → kind_at t d.offset ≡ note.kind
note_kind t d note = kind_is t note.kind d.offset note.at

pub note_desc : (t : StoreState) (d : Desc) → IsNote t d → IsDesc t d
note_desc t d note = (note.at.0, note.at.1)

names_of : (t : StoreState) (kind : DescKind) (d : Desc) (by : ℕ) → kind ≢ Ppi → IsDescriptorAt t kind d.offset → IsOf (note_list kind) (entry_of d by) t
names_of t Ppi d by other at = absurd (other refl)
names_of t Callback d by other at = at
names_of t Dispatch d by other at = at

made_by : (t : StoreState) (kind : DescKind) (d : Desc) (by : ℕ) → kind ≢ Ppi → with_entry (note_list kind) (entry_of d by) t ≡ with_note_of kind by t d
made_by t Ppi d by other = absurd (other refl)
made_by t Callback d by other = refl
made_by t Dispatch d by other = refl

same_by : (t : StoreState) (kind : DescKind) (d : Desc) (by : ℕ) → IsSame t (with_note_of kind by t d)
same_by t Ppi d by = record { board = refl; planned = refl; moved = refl; taken = refl }
same_by t Callback d by = record { board = refl; planned = refl; moved = refl; taken = refl }
same_by t Dispatch d by = record { board = refl; planned = refl; moved = refl; taken = refl }

pub note_there : (heap : Heap) (memory : PhysMem) (heads : Heads) (s : StoreState) (list : List Desc) (by i : ℕ) (none : Desc) → CanMakeNotes s list → (way : IsOnWay heap memory heads s (with_note by) list i) → i < length list
    → IsDesc way.state (get_or list i none)
note_there heap memory heads s list by i none can way le = note_desc way.state (get_or list i none) (note_at heap memory heads s list by i none can way le)

pub note_ready : (heap : Heap) (memory : PhysMem) (heads : Heads) (s : StoreState) (list : List Desc) (by i : ℕ) (none : Desc) (kind : DescKind) (notes : EntryList) → CanMakeNotes s list
    → (way : IsOnWay heap memory heads s (with_note by) list i) → i < length list → notes ≡ note_list kind → kind ≡ kind_at way.state (get_or list i none).offset → IsReady notes (entry_of (get_or list i none) by) way.state
note_ready heap memory heads s list by i none kind notes can way le l k =
    let d = get_or list i none in
    let note = note_at heap memory heads s list by i none can way le in
    let is : notes ≡ note_list note.kind = l ∙ ap note_list (k ∙ note_kind way.state d note) in
    subst (λ n. IsReady n (entry_of d by) way.state) (sym is)
    (record { names = names_of way.state note.kind d by note.other note.at; room = (room_on heap memory heads s (with_note by) list i way can.room le).room })

pub note_more : (heap : Heap) (memory after : PhysMem) (heads ends : Heads) (s : StoreState) (list : List Desc) (by i : ℕ) (none : Desc) (kind : DescKind) (notes : EntryList) → StepsKeepFacts → IsWord by
    → CanMakeNotes s list → (way : IsOnWay heap memory heads s (with_note by) list i) → i < length list → notes ≡ note_list kind → kind ≡ kind_at way.state (get_or list i none).offset
    → IsLinked heap after ends (with_entry notes (entry_of (get_or list i none) by) way.state) → IsOnWay heap after ends s (with_note by) list (i + 1)
note_more heap memory after heads ends s list by i none kind notes law word can way le l k linked =
    let t = way.state in
    let d = get_or list i none in
    let note = note_at heap memory heads s list by i none can way le in
    let kind_t = note_kind t d note in
    let is : notes ≡ note_list note.kind = l ∙ ap note_list (k ∙ kind_t) in
    let made : with_entry notes (entry_of d by) t ≡ with_note by t d =
    ap (λ n. with_entry n (entry_of d by) t) is ∙ made_by t note.kind d by note.other ∙ ap (λ x. with_note_of x by t d) (sym kind_t) in
    let here : IsLinked heap after ends (with_note by t d) = subst (IsLinked heap after ends) made linked in
    let step = law.note t note.kind by d (room_on heap memory heads s (with_note by) list i way can.room le) note.other note.at word in
    one_more heap memory after heads ends s (with_note by) list i none way le here step (same_by t (kind_at t d.offset) d by)
