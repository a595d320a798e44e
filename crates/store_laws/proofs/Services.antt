-- Each service keeps what holds of every state, since its own test leaves room.
use Rattle.std.proofs.Common.{◌≡◌, ℕ, ◌+◌, ◌-◌, ◌*◌, ◌≤◌, ◌<◌, ◌^◌, Bool, true, false, List, [], ◌∷◌, length, arith, sym, refl, subst, ◌∙◌, Option, Some, None, Ok, Err, nat_le, nat_lt, ◌==◌, if◌then◌else◌, not, ◌&&◌, is_none, option_map, IfSome}
use Rattle.std.specs.List.{list_all, list_any}
use Rattle.std.proofs.lemmas.Bool.Decides.{nat_tests}
use Rattle.hob_codec.specs.{HobValue.HobValue, HobBytes.length_of}
use Rattle.pi_base.specs.{Lists.Each, declared.known_guid.TheConstants.MEMORY_PPI}
use Rattle.pi_base.proofs.ListFacts.{each_more}
use Rattle.store_model.specs.declared.store_handle.StoreFault.TheVariants as F
use Rattle.store_model.specs.{declared.store_handle.DescKind.DescKind, declared.store_handle.DescKind.TheVariants.Ppi}
use Rattle.store_model.specs.{declared.store_handle.Desc.Desc, declared.store_handle.Pool.Pool, declared.store_handle.Sweep.Sweep}
use Rattle.store_model.specs.declared.store_handle.GuidFrom.{GuidFrom}
use Rattle.store_model.specs.declared.store_handle.GuidFrom.TheVariants.{Inline, At}
use Rattle.store_model.specs.{declared.state.Pending.Pending, declared.state.DescriptorBody.DescriptorBody, declared.state.Body.Body}
use Rattle.store_model.specs.declared.state.Body.TheVariants.{Allocation, Bytes, Descriptor, Node}
use Rattle.store_model.specs.{declared.state.HobEntry.HobEntry, declared.state.TheConstants.CORE, MemoryReading.rom_bytes}
use Rattle.store_model.specs.StoreState.{Board, Range, StoreState, appended, empty_store, end_place, free, handoff_len, hob_len, next_body, page_bytes, pool_of, rounded}
use Rattle.store_model.specs.StateFacts.{ArePages, IsBoard, IsBodyOf, IsDesc, IsHeap, IsHobEntry, IsPending, IsPlanned, IsPool, IsStoreState}
use Rattle.store_model.specs.{Migration.migrated_to, Service.Service, Service.in_room, Service.Queue.popped, Service.Queue.zeroed}
use Rattle.store_model.specs.Service.Pool.{most_pool, pool, written}
use Rattle.store_model.specs.Service.Descriptor.{desc, desc_of, is_ppi, kind_at}
use Rattle.store_model.specs.Service.Install.{both_or_full, core_install, core_of, install, install_pairs, install_sweep, installed, is_installed, node_need, reinstall, reinstall_pairs, reinstall_sweep, reinstalled}
use Rattle.store_model.specs.Service.Notify.{notified, notify, notify_pairs, notify_sweep}
use Rattle.store_model.specs.Service.Hob.{create_hob, hob_entry}
use Rattle.store_model.specs.Service.Memory.{allocation_hob, early_pages, is_memory, page_len, pages, pages_taken, set_memory, with_boot_mode, with_pages}
use Rattle.store_laws.specs.Bodies.{changed}
use Rattle.store_laws.specs.Keeping.{IsMade, IsScripted, IsWord, KeepFacts, Keeps}
use Rattle.store_laws.proofs.Bodies.{new_body, sum_changed}
use Rattle.store_laws.proofs.Sound.{IsRoomy, IsSound, appended_sound, bare, facts_of, sound_of}
use Rattle.store_laws.proofs.Hobs.{descriptor_entry, few_pages, pages_entry, pool_entry, script_entry, zeros, zeros_need}
use Rattle.store_laws.proofs.Entries.{both_true, installed_sound, note_descs, notified_sound, ppi_desc, ppi_descs, reinstalled_sound}
use Rattle.store_laws.proofs.Changed.{popped_sound, without_first, written_len, written_sound}
use Rattle.store_laws.proofs.Longer.{Longer, installed_longer, longer_room, notified_longer, push_longer, reinstalled_longer}
use Rattle.store_laws.proofs.Moved.{migrated_sound, sum_moved, way_of}

-- the first state
first_keeps : (board : Board) → IsBoard board → IsStoreState (empty_store board)
first_keeps board h =
    let fits = h.pages in
    facts_of (empty_store board) (record {
      ppis = tt;
      callbacks = tt;
      dispatches = tt;
      pendings = tt;
      nodes = tt;
      hobs = tt;
      boot_mode = omega arith;
      frame = record { pages = omega arith; board = h; planned = tt; heap = (refl, omega (arith, fits), refl) };
    }) (omega (arith, fits))

-- a choice
keeps_if : {A : Type 0} (b : Bool) (x y : Service A) → (b ≡ true → Keeps x) → (b ≡ false → Keeps y) → Keeps (if b then x else y)
keeps_if true x y f g = f refl
keeps_if false x y f g = g refl

keeps_not : {A : Type 0} (b : Bool) (x y : Service A) → (b ≡ false → Keeps x) → (b ≡ true → Keeps y) → Keeps (if not b then x else y)
keeps_not true x y f g = g refl
keeps_not false x y f g = f refl

-- what has room for its need, and is no longer than it
keeps_need : {A : Type 0} (s t : StoreState) (need : ℕ) (answer : A) → IsRoomy s → Longer s t need → IsSound t → Keeps (in_room s need (Ok (answer, t)))
keeps_need s t need answer room l sound = keeps_if (nat_lt (free s) need) _ _ (λ e. tt) (λ e. facts_of t sound (longer_room s t need l room e))

keeps_hob : {A : Type 0} (s : StoreState) (hob : HobEntry) (need : ℕ) (answer : A) → IsStoreState s → hob_len hob ≡ need → IsHobEntry s.board s.taken hob → Keeps (in_room s need (Ok (answer, appended s hob)))
keeps_hob s hob need answer h e is = keeps_need s (appended s hob) need answer h.room (push_longer s hob need e) (appended_sound s hob (sound_of s h) is)

-- a pool
keeps_pool : (s : StoreState) (size : ℕ) → IsStoreState s → Keeps (pool s size)
keeps_pool s size h =
    keeps_if (nat_lt most_pool size) _ _ (λ e. tt)
    (λ e. let le : size ≤ most_pool = grind (arith, nat_tests, e) in
    let is = pool_entry s.board s.taken size le in
    let hob : HobEntry = pool_of (Bytes (zeros size)) in
    keeps_hob s hob (rounded size + 8) _ h (zeros_need size) is)

address_keeps : (s : StoreState) (kind : DescKind) (number address : ℕ) (bytes : Option (List ℕ)) → IsStoreState s → IsMade kind (At address) number → rom_bytes s.board.roms address 16 ≡ bytes
    → Keeps (desc_of s kind number (option_map (λ xs. (record { 0 = xs }, Some address)) bytes))
address_keeps s kind number address None h made e = tt
address_keeps s kind number address (Some bytes) h made e =
    let d : DescriptorBody = record { kind = kind; guid = record { 0 = bytes }; stands = Some address; number = number } in
    keeps_hob s (pool_of (Descriptor d)) 32 _ h refl (descriptor_entry s.board s.taken d e made.number_is)

keeps_desc : (s : StoreState) (kind : DescKind) (guid : GuidFrom) (number : ℕ) → IsStoreState s → IsMade kind guid number → Keeps (desc s kind guid number)
keeps_desc s kind (Inline guid) number h made =
    let d : DescriptorBody = record { kind = kind; guid = guid; stands = None; number = number } in
    keeps_hob s (pool_of (Descriptor d)) 48 _ h refl (descriptor_entry s.board s.taken d made.guid_is made.number_is)
keeps_desc s kind (At address) number h made = address_keeps s kind number address (rom_bytes s.board.roms address 16) h made refl

keeps_script : (s : StoreState) (hob : HobValue) → IsStoreState s → IsScripted hob → Keeps (create_hob s hob)
keeps_script s hob h is = keeps_hob s (hob_entry hob) (length_of hob) _ h is.len (script_entry s.board s.taken hob is)

-- entries
keeps_install : (s : StoreState) (list : List Desc) (by : ℕ) → IsStoreState s → Each (IsDesc s) list → IsWord by → Keeps (install s list by)
keeps_install s list by h each word =
    keeps_not (list_all (λ d. is_ppi (kind_at s d.offset)) list) _ _ (λ e. tt)
    (λ e. keeps_need s (installed s list by) (node_need (length list) + node_need (length (install_pairs s list))) (install_sweep s list) h.room (installed_longer s list by)
    (installed_sound s list by word (sound_of s h) (ppi_descs s list each e)))

keeps_notify : (s : StoreState) (list : List Desc) (by : ℕ) → IsStoreState s → Each (IsDesc s) list → IsWord by → Keeps (notify s list by)
keeps_notify s list by h each word =
    keeps_if (list_any (λ d. is_ppi (kind_at s d.offset)) list) _ _ (λ e. tt)
    (λ e. keeps_need s (notified s list by) (node_need (length list) + node_need (length (notify_pairs s list))) (notify_sweep s list) h.room (notified_longer s list by)
    (notified_sound s list by word (sound_of s h) (note_descs s list each e)))

keeps_reinstall : (s : StoreState) (old new : Desc) (by : ℕ) → IsStoreState s → IsDesc s new → IsWord by → Keeps (reinstall s old new by)
keeps_reinstall s old new by h is word =
    keeps_not (is_ppi (kind_at s new.offset)) _ _ (λ e. tt)
    (λ e. keeps_not (is_installed s old) _ _ (λ f. tt)
    (λ f. keeps_need s (reinstalled s old new by) (node_need (length (reinstall_pairs s new))) (reinstall_sweep s old) h.room (reinstalled_longer s old new by)
    (reinstalled_sound s old new by word (sound_of s h) (ppi_desc s new is e))))

-- the core's call
abbrev memory_desc : DescriptorBody
memory_desc = record { kind = Ppi; guid = MEMORY_PPI; stands = None; number = 0 }

both_keep : (service : Service Sweep) → Keeps service → Keeps (both_or_full service)
both_keep (Ok (sweep, t)) h = h
both_keep (Err fault) h = tt

core_on : (b : Bool) (s : StoreState) (made : Desc × StoreState) → IsDesc made.1 made.0 → (b ≡ false → IsStoreState made.1) → Keeps (core_of (if b then Err F.Full else Ok made))
core_on true s made is h = tt
core_on false s made is h = both_keep (install made.1 (made.0 ∷ []) CORE) (keeps_install made.1 (made.0 ∷ []) CORE (h refl) (is, tt) (omega arith))

made_keeps : (b : Bool) (made : Desc × StoreState) → Keeps (if b then Err F.Full else Ok made) → b ≡ false → IsStoreState made.1
made_keeps true made h e = cc
made_keeps false made h e = h

keeps_core : (s : StoreState) → IsStoreState s → Keeps (core_install s)
keeps_core s h =
    let hob : HobEntry = pool_of (Descriptor memory_desc) in
    let made : Desc × StoreState = (record { offset = next_body s }, appended s hob) in
    let keeps = keeps_desc s Ppi (Inline MEMORY_PPI) 0 h (record { guid_is = refl; number_is = omega arith }) in
    core_on (nat_lt (free s) 48) s made (memory_desc, new_body s.hobs hob handoff_len (next_body s) refl) (made_keeps (nat_lt (free s) 48) made keeps)

-- permanent memory
false_is_true : false ≡ true → ⊥
false_is_true e = cc

planned_heap : (s : StoreState) (to : Range) → is_none s.planned ≡ true → (moved : Bool) → IsHeap (bare s) moved → IsHeap (bare (record s { planned = Some to })) moved
planned_heap s to none true h =
    absurd (let no : is_none {T = Range} (Some (record { base = s.base; len = s.len })) ≡ true = subst (λ (x : Option Range). is_none x ≡ true) h.0 none in false_is_true no)
planned_heap s to none false h = h

planned_pages : (s : StoreState) (to : Range) (moved : Bool) → ArePages (bare s) moved → ArePages (bare (record s { planned = Some to })) moved
planned_pages s to true h = h
planned_pages s to false h = h

planned_is : (s : StoreState) (begin len : ℕ) → is_memory s begin len ≡ true → IsPlanned s.board (record { base = begin; len = len }) × (is_none s.planned ≡ true)
planned_is s begin len e =
    let a = both_true _ (is_none s.planned) e in
    let b = both_true _ (nat_le s.board.temp.len len) a.0 in
    let c = both_true _ (nat_le s.board.ram.base begin && nat_le (begin + len) (s.board.ram.base + s.board.ram.len)) b.0 in
    let d = both_true (nat_le s.board.ram.base begin) (nat_le (begin + len) (s.board.ram.base + s.board.ram.len)) c.1 in
    let low : s.board.ram.base ≤ begin = grind (arith, nat_tests, d.0) in
    let high : begin + len ≤ s.board.ram.base + s.board.ram.len = grind (arith, nat_tests, d.1) in
    let size : s.board.temp.len ≤ len = grind (arith, nat_tests, b.1) in
    ((low, high, size), a.1)

keeps_set_memory : (s : StoreState) (begin len : ℕ) → IsStoreState s → Keeps (set_memory s begin len)
keeps_set_memory s begin len h =
    keeps_not (is_memory s begin len) _ _ (λ e. tt)
    (λ e. let told = planned_is s begin len e in
    let to : Range = record { base = begin; len = len } in
    let sound = sound_of s h in
    facts_of (record s { planned = Some to }) (record {
      ppis = sound.ppis;
      callbacks = sound.callbacks;
      dispatches = sound.dispatches;
      pendings = sound.pendings;
      nodes = sound.nodes;
      hobs = sound.hobs;
      boot_mode = sound.boot_mode;
      frame = record {
        pages = planned_pages s to s.moved sound.frame.pages;
        board = sound.frame.board;
        planned = told.0;
        heap = planned_heap s to told.1 s.moved sound.frame.heap;
      };
    }) h.room)

-- pages: none lies lower than all that were taken, also where more are taken
body_of_more : (board : Board) (taken more kind : ℕ) (body : Body) → IsBodyOf board taken kind body → IsBodyOf board (taken + more) kind body
body_of_more board taken more kind (Bytes bytes) h = h
body_of_more board taken more kind (Descriptor d) h = h
body_of_more board taken more kind Node h = h
body_of_more board taken more kind (Allocation a) h =
    let low = h.1.below in (h.0, record { memory_type = h.1.memory_type; len = h.1.len; below = omega (arith, low) })

entry_of_more : (board : Board) (taken more : ℕ) (hob : HobEntry) → IsHobEntry board taken hob → IsHobEntry board (taken + more) hob
entry_of_more board taken more hob h = record {
  kind = h.kind;
  not_handoff = h.not_handoff;
  not_end = h.not_end;
  len = h.len;
  aligned = h.aligned;
  typed = h.typed;
  body = body_of_more board taken more hob.kind hob.body h.body;
}

taken_heap : (s : StoreState) (more : ℕ) (moved : Bool) → IsHeap (bare s) moved → IsHeap (bare (record s { taken = s.taken + more })) moved
taken_heap s more true h = h
taken_heap s more false h = h

pages_sound : (s : StoreState) (memory_type len : ℕ) → IsSound s → IsWord memory_type → len < 2 ^ 64 → ArePages (bare (with_pages s memory_type len)) s.moved → IsSound (with_pages s memory_type len)
pages_sound s memory_type len h word fits are =
    let t = record s { taken = s.taken + len } in
    let more : IsSound t = record {
      ppis = h.ppis;
      callbacks = h.callbacks;
      dispatches = h.dispatches;
      pendings = h.pendings;
      nodes = h.nodes;
      hobs = each_more (IsHobEntry s.board s.taken) (IsHobEntry s.board (s.taken + len)) s.hobs (entry_of_more s.board s.taken len) h.hobs;
      boot_mode = h.boot_mode;
      frame = record { pages = are; board = h.frame.board; planned = h.frame.planned; heap = taken_heap s len s.moved h.frame.heap };
    } in
    appended_sound t (allocation_hob memory_type len (s.taken + len)) more (pages_entry s.board memory_type len (s.taken + len) word fits)

are_pages : (s : StoreState) (memory_type len : ℕ) (moved : Bool) → (moved ≡ false → s.taken + len ≤ s.board.pages) → ArePages (bare (with_pages s memory_type len)) moved
are_pages s memory_type len true f = tt
are_pages s memory_type len false f = f refl

early_of : (s : StoreState) (moved : Bool) → moved ≡ false → ArePages s moved → s.taken ≤ s.board.pages
early_of s true e h = cc
early_of s false e h = h

moved_bytes : (b : Bool) (a n : ℕ) → b ≡ true → page_bytes b (a + n) ≡ page_bytes b a + n
moved_bytes true a n e = refl
moved_bytes false a n e = cc

early_bytes : (b : Bool) (a n : ℕ) → b ≡ false → page_bytes b n ≡ page_bytes b a
early_bytes true a n e = cc
early_bytes false a n e = refl

fits_in : (len end last before after need : ℕ) → end + 8 + before ≤ len → nat_lt (len - 8 - end - before) need ≡ false → last + after ≤ end + before + need → last + 8 + after ≤ len
fits_in len end last before after need room e le = grind (arith, nat_tests, room, e, le)

-- the test leaves room for the HOB, and after the move for the pages
pages_roomy : (s : StoreState) (memory_type len need : ℕ) → IsRoomy s → nat_lt (free s) need ≡ false → page_bytes s.moved (s.taken + len) + 48 ≤ page_bytes s.moved s.taken + need
    → IsRoomy (with_pages s memory_type len)
pages_roomy s memory_type len need room e le =
    let t = with_pages s memory_type len in
    let last = (push_longer s (allocation_hob memory_type len (s.taken + len)) 48 refl).end in
    fits_in s.len (end_place s) (end_place t) (page_bytes s.moved s.taken) (page_bytes s.moved (s.taken + len)) need room e (omega (arith, last, le))

moved_pages_keep : (s : StoreState) (memory_type len : ℕ) → IsStoreState s → IsWord memory_type → len < 2 ^ 64 → s.moved ≡ true → Keeps (in_room s (48 + len) (pages_taken s memory_type len))
moved_pages_keep s memory_type len h word fits m =
    keeps_if (nat_lt (free s) (48 + len)) _ _ (λ e. tt)
    (λ e. let more = moved_bytes s.moved s.taken len m in
    facts_of (with_pages s memory_type len) (pages_sound s memory_type len (sound_of s h) word fits (are_pages s memory_type len s.moved (λ n. absurd (false_is_true (sym n ∙ m)))))
    (pages_roomy s memory_type len (48 + len) h.room e (omega (arith, more))))

early_pages_keep : (s : StoreState) (memory_type len : ℕ) → IsStoreState s → IsWord memory_type → len < 2 ^ 64 → s.moved ≡ false → Keeps (early_pages s memory_type len)
early_pages_keep s memory_type len h word fits m =
    keeps_if (s.board.pages == 0) _ _ (λ e. tt)
    (λ e. keeps_if (nat_lt (s.board.pages - s.taken) len) _ _ (λ f. tt)
    (λ f. keeps_if (nat_lt (free s) 48) _ _ (λ g. tt)
    (λ g. let early = early_of s s.moved m h.pages in
    let within : s.taken + len ≤ s.board.pages = grind (arith, nat_tests, f, early) in
    let none = early_bytes s.moved s.taken (s.taken + len) m in
    facts_of (with_pages s memory_type len) (pages_sound s memory_type len (sound_of s h) word fits (are_pages s memory_type len s.moved (λ n. within)))
    (pages_roomy s memory_type len 48 h.room g (omega (arith, none))))))

keeps_pages : (s : StoreState) (memory_type count : ℕ) → IsStoreState s → IsWord memory_type → IsWord count → Keeps (pages s memory_type count)
keeps_pages s memory_type count h word few =
    let len = page_len * count in
    let fits = few_pages count few in
    keeps_if s.moved _ _ (λ m. moved_pages_keep s memory_type len h word fits m) (λ m. early_pages_keep s memory_type len h word fits m)

-- the boot mode
keeps_mode : (s : StoreState) (mode : ℕ) → IsStoreState s → IsWord mode → IsStoreState (with_boot_mode s mode)
keeps_mode s mode h word =
    let sound = sound_of s h in
    facts_of (with_boot_mode s mode) (record {
      ppis = sound.ppis;
      callbacks = sound.callbacks;
      dispatches = sound.dispatches;
      pendings = sound.pendings;
      nodes = sound.nodes;
      hobs = sound.hobs;
      boot_mode = word;
      frame = sound.frame;
    }) h.room

-- a write into a pool
store_on : (s : StoreState) (to : Pool) (at : ℕ) (bytes : List ℕ) (b : Bool) → nat_lt to.size (at + length bytes) ≡ b → IsStoreState s → IsPool s to
    → IfSome (if b then None else Some (changed (written at bytes) s to.offset)) IsStoreState
store_on s to at bytes true e h is = tt
store_on s to at bytes false e h is =
    let le : at + length bytes ≤ to.size = grind (arith, nat_tests, e) in
    let same = sum_changed (written at bytes) s.hobs handoff_len to.offset (Bytes is.0) is.1 (written_len at bytes is.0 (omega (arith, le, is.2))) in
    let room = h.room in
    facts_of (changed (written at bytes) s to.offset) (written_sound s to at bytes (sound_of s h) is le) (omega (arith, same, room))

-- the queue
popped_on : (s : StoreState) (pendings : List Pending) → s.pendings ≡ pendings → IsStoreState s → IfSome (popped s pendings) (λ told. IsStoreState told.1)
popped_on s [] e h = tt
popped_on s (first ∷ rest) e h =
    let queued = subst (λ xs. Each (IsPending s) xs) e h.pendings in
    let same = sum_changed zeroed s.hobs handoff_len first.node Node queued.0.0 refl in
    let room = h.room in
    facts_of (without_first s first.node rest) (popped_sound s first rest (sound_of s h) e) (omega (arith, same, room))

-- the move
moved_on : (s : StoreState) (moved : Bool) (planned : Option Range) → s.moved ≡ moved → s.planned ≡ planned → IsStoreState s → IfSome (if moved then None else option_map (migrated_to s) planned) IsStoreState
moved_on s true planned m e h = tt
moved_on s false None m e h = tt
moved_on s false (Some to) m e h =
    let room = h.room in
    let heap : IsHeap s false = subst (IsHeap s) m h.heap in
    let early : ArePages s false = subst (ArePages s) m h.pages in
    let plan : IsPlanned s.board to = subst (λ (x : Option Range). IfSome x (IsPlanned s.board)) e h.planned in
    let same = sum_moved s to s.hobs handoff_len h.board h.hobs in
    facts_of (migrated_to s to) (migrated_sound s to (sound_of s h) e (way_of s to h.board plan heap)) (omega (arith, room, heap.1, early, plan.2, same))

pub all_keep : KeepFacts
all_keep = record {
  first = first_keeps;
  pool = keeps_pool;
  store = λ s to at bytes h is. store_on s to at bytes (nat_lt to.size (at + length bytes)) refl h is;
  desc = keeps_desc;
  install = keeps_install;
  reinstall = λ s old new by h was is word. keeps_reinstall s old new by h is word;
  core_install = keeps_core;
  notify = keeps_notify;
  queue_pop = λ s h. popped_on s s.pendings refl h;
  create_hob = keeps_script;
  set_memory = keeps_set_memory;
  pages = keeps_pages;
  boot_mode = keeps_mode;
  move = λ s h. moved_on s s.moved s.planned refl refl h;
}
