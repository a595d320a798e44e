-- The move changes no PPI, notification or other HOB.
use Rattle.std.proofs.Common.{◌≡◌, ℕ, ◌+◌, ◌-◌, ◌<◌, ◌≤◌, ◌==◌, Bool, true, false, ◌&&◌, ◌||◌, cond, List, [], ◌∷◌, ◌++◌, Option, Some, None, refl, sym, subst, ap, ◌∙◌, arith, nat_le, nat_lt, unwrap_or, IfSome, option_map}
use Rattle.std.specs.List.{list_any}
use Rattle.std.proofs.lemmas.Bool.Decides.{nat_tests}
use Rattle.pi_base.specs.{declared.guid.Guid.Guid, Lists.Each}
use Rattle.pi_base.proofs.ListFacts.{each_more, each_append}
use Rattle.store_model.specs.{declared.store_handle.DescKind.DescKind, declared.state.Body.Body}
use Rattle.store_model.specs.declared.store_handle.DescKind.TheVariants.{Ppi, Callback, Dispatch}
use Rattle.store_model.specs.declared.state.Body.TheVariants.{Bytes, Descriptor, Node, Allocation}
use Rattle.store_model.specs.{declared.state.DescriptorBody.DescriptorBody, declared.state.Entry.Entry, declared.state.Pending.Pending}
use Rattle.store_model.specs.StoreState.{StoreState, Range, body_at, handoff_len}
use Rattle.store_model.specs.StateFacts.{IsStoreState, IsEntry, IsPending, IsDescriptorAt, IsPlanned, IsHeap}
use Rattle.store_model.specs.HeapImage.{descriptor_bytes}
use Rattle.store_model.specs.Migration.{migrated_to, moved_body, moved_number, moved_value, moved_descriptor}
use Rattle.store_model.specs.Service.Descriptor.{descriptors, descriptor_in, guid_at, number_at, is_named, no_guid}
use Rattle.boot_model.specs.Unchanged.{IsSamePlace, KeepsPpi, KeepsNotification, KeepsPending, KeepsNumber, KeepsDescriptor, KeepsNamed, KeepsBody, KeepsPlace, IsUnchanged}
use Rattle.boot_laws.specs.Moves.{MovesChangeNothing}
use Rattle.boot_model.proofs.ListFacts.{has_here, has_later}
use Rattle.boot_laws.proofs.PartLists.{both_of}
use Rattle.boot_laws.proofs.MovedHobs.{moved_at, moved_named, moved_lengths, kinds_stay}

-- before the move: the heap is temporary RAM without its page region, and all of it fits into the place to which it goes
pub record IsDueTo (s : StoreState) (to : Range) : Type 0 where
  pub base : s.base ≡ s.board.temp.base
  pub len : s.len + s.board.pages ≡ s.board.temp.len
  pub page_end : s.page_end ≡ s.board.temp.base + s.board.temp.len
  pub fits : s.board.temp.len ≤ to.len

-- by whether a number lies in the heap, and in the page region
place_on : (s : StoreState) (to : Range) (n : ℕ) (heap pages : Bool) → (nat_le s.base n && nat_lt n (s.base + s.len)) ≡ heap
    → (nat_le (s.page_end - s.board.pages) n && nat_lt n s.page_end) ≡ pages → IsDueTo s to
    → IsSamePlace s (migrated_to s to) n (cond heap (n - s.base + to.base) (cond pages (to.base + to.len - (s.page_end - n)) n))
place_on s to n true pages h p due =
    let both = both_of (nat_le s.base n) (nat_lt n (s.base + s.len)) h in
    let low : s.base ≤ n = grind (arith, nat_tests, both.0) in
    let high : n < s.base + s.len = grind (arith, nat_tests, both.1) in
    record {
      heap = λ offset lt e. omega (arith, e);
      pages = λ distance some le e. absurd (omega (arith, e, le, low, high, due.base, due.len, due.page_end));
      below = λ lt. absurd (omega (arith, lt, low, due.base));
      above = λ le. absurd (omega (arith, le, high, due.base, due.len));
    }
place_on s to n false true h p due =
    let both = both_of (nat_le (s.page_end - s.board.pages) n) (nat_lt n s.page_end) p in
    let low : s.page_end - s.board.pages ≤ n = grind (arith, nat_tests, both.0) in
    let high : n < s.page_end = grind (arith, nat_tests, both.1) in
    record {
      heap = λ offset lt e. absurd (omega (arith, lt, e, low, due.base, due.len, due.page_end));
      pages = λ distance some le e. omega (arith, e, le, due.fits, due.len);
      below = λ lt. absurd (omega (arith, lt, low, due.base, due.len, due.page_end));
      above = λ le. absurd (omega (arith, le, high, due.page_end));
    }
place_on s to n false false h p due =
    record {
      heap = λ offset lt e. absurd (outside offset lt e);
      pages = λ distance some le e. absurd (beyond distance some le e);
      below = λ _. refl;
      above = λ _. refl;
    }
  where
    outside : (offset : ℕ) → offset < s.len → n ≡ s.base + offset → ⊥
    outside offset lt e =
        let low : nat_le s.base n ≡ true = grind (arith, nat_tests) in
        let high : nat_lt n (s.base + s.len) ≡ true = grind (arith, nat_tests) in
        let t : (nat_le s.base n && nat_lt n (s.base + s.len)) ≡ true = cc in
        let no : true ≡ false = sym t ∙ h in cc

    beyond : (distance : ℕ) → 0 < distance → distance ≤ s.board.pages → n + distance ≡ s.page_end → ⊥
    beyond distance some le e =
        let low : nat_le (s.page_end - s.board.pages) n ≡ true = grind (arith, nat_tests) in
        let high : nat_lt n s.page_end ≡ true = grind (arith, nat_tests) in
        let t : (nat_le (s.page_end - s.board.pages) n && nat_lt n s.page_end) ≡ true = cc in
        let no : true ≡ false = sym t ∙ p in cc

same_place : (s : StoreState) (to : Range) (n : ℕ) → IsDueTo s to → IsSamePlace s (migrated_to s to) n (moved_number s to n)
same_place s to n due = place_on s to n (nat_le s.base n && nat_lt n (s.base + s.len)) (nat_le (s.page_end - s.board.pages) n && nat_lt n s.page_end) refl refl due

keeps_value : (s : StoreState) (to : Range) (kind : DescKind) (n : ℕ) → IsDueTo s to → KeepsNumber s (migrated_to s to) kind n (moved_value s to kind n)
keeps_value s to Ppi n due = same_place s to n due
keeps_value s to Callback n due = refl
keeps_value s to Dispatch n due = refl

keeps_descriptor : (s : StoreState) (to : Range) (d : DescriptorBody) → IsDueTo s to → KeepsDescriptor s (migrated_to s to) d (moved_descriptor s to d)
keeps_descriptor s to d due = record { kind = refl; guid = refl; stands = refl; number = keeps_value s to d.kind d.number due }

-- each body stays, but a descriptor that nothing names
named_or_not : (s : StoreState) (to : Range) (place : ℕ) (d : DescriptorBody) (b : Bool) → IsDueTo s to
    → KeepsNamed b s (migrated_to s to) place d (cond b (Descriptor (moved_descriptor s to d)) (Bytes (descriptor_bytes s.base place d)))
named_or_not s to place d true due = (moved_descriptor s to d, refl, keeps_descriptor s to d due)
named_or_not s to place d false due = refl

keeps_body : (s : StoreState) (to : Range) (place : ℕ) (body : Body) → IsDueTo s to → KeepsBody s (migrated_to s to) place body (moved_body s to place body)
keeps_body s to place (Bytes bytes) due = refl
keeps_body s to place Node due = refl
keeps_body s to place (Allocation a) due = refl
keeps_body s to place (Descriptor d) due = named_or_not s to place d (is_named s place) due

keeps_place : (s : StoreState) (to : Range) (place : ℕ) (body : Option Body) → IsDueTo s to → KeepsPlace s (migrated_to s to) place body (option_map (moved_body s to place) body)
keeps_place s to place None due = refl
keeps_place s to place (Some body) due = keeps_body s to place body due

bodies_stay : (s : StoreState) (to : Range) (place : ℕ) → IsStoreState s → IsDueTo s to → KeepsPlace s (migrated_to s to) place (body_at s place) (body_at (migrated_to s to) place)
bodies_stay s to place facts due = subst (λ o. KeepsPlace s (migrated_to s to) place (body_at s place) o) (sym (moved_at s to place facts)) (keeps_place s to place (body_at s place) due)

-- the GUID and the number of a body
abbrev guid_of : Option DescriptorBody → Guid
guid_of found = unwrap_or (option_map (λ d. d.guid) found) no_guid

abbrev number_of : Option DescriptorBody → ℕ
number_of found = unwrap_or (option_map (λ d. d.number) found) 0

guid_stays : (s : StoreState) (to : Range) (place : ℕ) (d : DescriptorBody) → IsStoreState s → is_named s place ≡ true → body_at s place ≡ Some (Descriptor d)
    → guid_at (migrated_to s to) place ≡ guid_at s place
guid_stays s to place d facts is h =
    ap (λ body. guid_of (descriptor_in body)) (moved_named s to place d facts is h) ∙ sym (ap (λ body. guid_of (descriptor_in body)) h)

-- a PPI at a place that is named
ppi_stays : (s : StoreState) (to : Range) (place : ℕ) → IsStoreState s → IsDueTo s to → is_named s place ≡ true → IsDescriptorAt s Ppi place → KeepsPpi s (migrated_to s to) place
ppi_stays s to place facts due is (d, h, kind) =
    let before : number_at s place ≡ d.number = ap (λ body. number_of (descriptor_in body)) h in
    let after : number_at (migrated_to s to) place ≡ (moved_descriptor s to d).number = ap (λ body. number_of (descriptor_in body)) (moved_named s to place d facts is h) in
    let value : KeepsNumber s (migrated_to s to) Ppi d.number (moved_descriptor s to d).number =
    subst (λ k. KeepsNumber s (migrated_to s to) k d.number (moved_descriptor s to d).number) kind (keeps_value s to d.kind d.number due) in
    record {
      guid = guid_stays s to place d facts is h;
      value = subst (λ n. IsSamePlace s (migrated_to s to) n (number_at (migrated_to s to) place)) (sym before)
          (subst (λ n. IsSamePlace s (migrated_to s to) d.number n) (sym after) value);
    }

is_entry : (s : StoreState) (to : Range) (kind : DescKind) (n : ℕ) (later : ℕ) → (kind ≡ Ppi → ⊥) → KeepsNumber s (migrated_to s to) kind n later → later ≡ n
is_entry s to Ppi n later other h = absurd (other refl)
is_entry s to Callback n later other h = h
is_entry s to Dispatch n later other h = h

note_stays : (s : StoreState) (to : Range) (kind : DescKind) (place : ℕ) → (kind ≡ Ppi → ⊥) → IsStoreState s → IsDueTo s to → is_named s place ≡ true → IsDescriptorAt s kind place
    → KeepsNotification s (migrated_to s to) place
note_stays s to kind place other facts due is (d, h, same) =
    let before : number_at s place ≡ d.number = ap (λ body. number_of (descriptor_in body)) h in
    let after : number_at (migrated_to s to) place ≡ (moved_descriptor s to d).number = ap (λ body. number_of (descriptor_in body)) (moved_named s to place d facts is h) in
    let entry : (moved_descriptor s to d).number ≡ d.number =
    is_entry s to kind d.number (moved_descriptor s to d).number other (subst (λ k. KeepsNumber s (migrated_to s to) k d.number (moved_descriptor s to d).number) same (keeps_value s to d.kind d.number due)) in
    record { guid = guid_stays s to place d facts is h; entry = after ∙ entry ∙ sym before }

-- what an entry names is named
abbrev IsAmong : List Entry → Entry → Type 0
IsAmong entries entry = list_any (λ place. place == entry.descriptor) (descriptors entries) ≡ true

all_among : (entries : List Entry) → Each (IsAmong entries) entries
all_among [] = tt
all_among (x ∷ xs) =
    let same : (x.descriptor == x.descriptor) ≡ true = grind (arith, nat_tests) in
    (has_here (x.descriptor == x.descriptor) _ same, each_more (IsAmong xs) (IsAmong (x ∷ xs)) xs (λ y h. has_later (x.descriptor == y.descriptor) _ h) (all_among xs))

each_parts : (P : Entry → Type 0) (xs ys : List Entry) → Each P (xs ++ ys) → Each P xs × Each P ys
each_parts P [] ys e = (tt, e)
each_parts P (x ∷ xs) ys e = let rest = each_parts P xs ys e.1 in ((e.0, rest.0), rest.1)

abbrev Names : StoreState → Entry → Type 0
Names s entry = is_named s entry.descriptor ≡ true

-- of all three lists
pub entries_named : (s : StoreState) → Each (Names s) s.ppis × Each (Names s) s.callbacks × Each (Names s) s.dispatches
entries_named s =
    let all = s.ppis ++ s.callbacks ++ s.dispatches in
    let named = each_more (IsAmong all) (Names s) all (λ entry h. has_here _ _ h) (all_among all) in
    let notes = each_parts (Names s) (s.ppis ++ s.callbacks) s.dispatches named in
    let ppis = each_parts (Names s) s.ppis s.callbacks notes.0 in
    (ppis.0, ppis.1, notes.1)

-- and what a queued pair names
abbrev IsNamedBy : List Pending → ℕ → Type 0
IsNamedBy pendings place = list_any (λ pending. pending.descriptor == place || pending.ppi == place) pendings ≡ true

abbrev BothNamed : List Pending → Pending → Type 0
BothNamed pendings pending = IsNamedBy pendings pending.descriptor × IsNamedBy pendings pending.ppi

both_named : (pendings : List Pending) → Each (BothNamed pendings) pendings
both_named [] = tt
both_named (x ∷ xs) =
    let first : (x.descriptor == x.descriptor) ≡ true = grind (arith, nat_tests) in
    let second : (x.ppi == x.ppi) ≡ true = grind (arith, nat_tests) in
    let own : BothNamed (x ∷ xs) x = (has_here _ _ (has_here (x.descriptor == x.descriptor) _ first), has_here _ _ (has_later (x.descriptor == x.ppi) (x.ppi == x.ppi) second)) in
    (own, each_more (BothNamed xs) (BothNamed (x ∷ xs)) xs (λ y h. (has_later _ _ h.0, has_later _ _ h.1)) (both_named xs))

-- what holds of two facts of each item
each_with : {A : Type 0} (P Q R : A → Type 0) (xs : List A) → ((x : A) → P x → Q x → R x) → Each P xs → Each Q xs → Each R xs
each_with P Q R [] f p q = tt
each_with P Q R (x ∷ xs) f p q = (f x p.0 q.0, each_with P Q R xs f p.1 q.1)

ppis_stay : (s : StoreState) (to : Range) → IsStoreState s → IsDueTo s to → Each (λ ppi. KeepsPpi s (migrated_to s to) ppi.descriptor) s.ppis
ppis_stay s to facts due =
    each_with (IsEntry s Ppi) (Names s) (λ ppi. KeepsPpi s (migrated_to s to) ppi.descriptor) s.ppis (λ ppi is named. ppi_stays s to ppi.descriptor facts due named is.1) facts.ppis (entries_named s).0

notes_stay : (s : StoreState) (to : Range) → IsStoreState s → IsDueTo s to → Each (λ note. KeepsNotification s (migrated_to s to) note.descriptor) (s.callbacks ++ s.dispatches)
notes_stay s to facts due =
    let Stays : Entry → Type 0 = λ note. KeepsNotification s (migrated_to s to) note.descriptor in
    let named = entries_named s in
    each_append Stays s.callbacks s.dispatches
    (each_with (IsEntry s Callback) (Names s) Stays s.callbacks (λ note is name. note_stays s to Callback note.descriptor (λ e. cc) facts due name is.1) facts.callbacks named.1)
    (each_with (IsEntry s Dispatch) (Names s) Stays s.dispatches (λ note is name. note_stays s to Dispatch note.descriptor (λ e. cc) facts due name is.1) facts.dispatches named.2)

pendings_stay : (s : StoreState) (to : Range) → IsStoreState s → IsDueTo s to → Each (KeepsPending s (migrated_to s to)) s.pendings
pendings_stay s to facts due =
    each_with (IsPending s) (BothNamed s.pendings) (KeepsPending s (migrated_to s to)) s.pendings
    (λ pending is named. record {
      notification = note_stays s to Dispatch pending.descriptor (λ e. cc) facts due (has_later _ _ named.0) is.1;
      ppi = ppi_stays s to pending.ppi facts due (has_later _ _ named.1) is.2;
    }) facts.pendings (both_named s.pendings)

unchanged : (s : StoreState) (to : Range) → IsStoreState s → IsDueTo s to → IsUnchanged s (migrated_to s to)
unchanged s to facts due = record {
  ppis = refl;
  callbacks = refl;
  dispatches = refl;
  pendings = refl;
  installed = ppis_stay s to facts due;
  registered = notes_stay s to facts due;
  queued = pendings_stay s to facts due;
  kinds = kinds_stay s to handoff_len s.hobs;
  lengths = moved_lengths s to facts;
  bodies = λ place. bodies_stay s to place facts due;
  taken = refl;
  boot_mode = refl;
  board = refl;
  planned = refl;
}

-- where the move is due
due_to : (s : StoreState) (to : Range) → IsHeap s false → IsPlanned s.board to → IsDueTo s to
due_to s to heap planned = record { base = heap.0; len = heap.1; page_end = heap.2; fits = planned.2 }

by_plan : (s new : StoreState) (moved : Bool) (planned : Option Range) → IsStoreState s → IsHeap s moved → IfSome planned (IsPlanned s.board)
    → cond moved None (option_map (migrated_to s) planned) ≡ Some new → IsUnchanged s new
by_plan s new true planned facts heap is h = cc
by_plan s new false None facts heap is h = cc
by_plan s new false (Some to) facts heap is h = let same : migrated_to s to ≡ new = cc in subst (IsUnchanged s) same (unchanged s to facts (due_to s to heap is))

pub moves_change_nothing : MovesChangeNothing
moves_change_nothing s new facts h = by_plan s new s.moved s.planned facts facts.heap facts.planned h
