-- What the queue shows of the machine, behind each of its calls.
use Rattle.std.proofs.Common.{◌≡◌, ℕ, Bool, true, false, ◌||◌, ◌&&◌, List, [], ◌∷◌, ◌++◌, Some, refl, ap, sym, subst, ◌∙◌, inl, inr, append_assoc, ◌==◌, ◌⊎◌, not, slice_get}
use Rattle.std.proofs.lemmas.Bool.Decides.{eqb_tells}
use Rattle.pi_base.specs.{declared.guid.Guid.Guid, declared.phase.Phase.Phase, GuidMap.value_of}
use Rattle.mod_catalog.specs.{declared.catalogue.Catalog.Catalog, Parts.has_number, Parts.part_at}
use Rattle.boot_laws.specs.PeiOrder.{OrderIsOfModules}
use Rattle.boot_model.specs.{Licence.AllDiffer, PeiChoice.pei_order, PeiChoice.volume_order, PeiMachine.PeiMachine}
use Rattle.wait_index.specs.{declared.index.WaitIndex.WaitIndex, declared.installed.Installed.Installed}
use Rattle.wait_index.specs.{declared.standing.Standing.Standing, Dispatch.StandsForPei, Installed.is_there, Places.standing_of}
use Rattle.wait_index.specs.Change as C
use Rattle.wait_index.specs.Discovery.{HaveCome, IsNew, opens}
use Rattle.wait_index.specs.Index.{IsIndex, IsSame, Changes, order_in}
use Rattle.pei_dispatch.specs.declared.queue.PeiQueue.{PeiQueue}
use Rattle.pei_dispatch.specs.Queue.{Shows, IsInOrder, AreNew, HasStarted}
use Rattle.pei_dispatch.specs.View.{View, view_of, is_number, parts_of, with_again, with_start, with_volumes}
use Rattle.pei_dispatch.proofs.Numbers.{has_append, has_front, apart}
use Rattle.pei_dispatch.proofs.Room.{order_more}

none_in : (xs : List ℕ) (n : ℕ) → xs ≡ [] → has_number xs n ≡ true → ⊥
none_in xs n empty h = let none : has_number xs n ≡ false = ap (λ ys. has_number ys n) empty in absurd (cc)

-- the same is shown by another view that says the same
and_with : (s a b : Bool) → (s ≡ true → a ≡ b) → (s && a) ≡ (s && b)
and_with true a b h = h refl
and_with false a b h = refl

pub shows_alike : (catalog : Catalog) (queue : PeiQueue) (v w : View) → Shows catalog queue v → v.reported ≡ w.reported → ((n : ℕ) → v.started n ≡ w.started n)
    → ((n : ℕ) → v.started n ≡ true → v.again n ≡ w.again n) → ((guid : Guid) → v.has guid ≡ w.has guid) → Shows catalog queue w
shows_alike catalog queue v w shows volumes started again has = record {
  of_catalog = shows.of_catalog;
  phase = shows.phase;
  order = shows.order ∙ ap (pei_order catalog) volumes;
  waits = λ n h. shows.waits n h ∙ ap not (started n);
  opens = shows.opens;
  allowed = λ n h. shows.allowed n h ∙ and_with (v.started n) (v.again n) (w.again n) (again n) ∙ ap (λ b. b && w.again n) (started n);
  installed = λ guid slot here. shows.installed guid slot here ∙ has guid;
  within = λ n h. ap (λ volumes. has_number (pei_order catalog volumes) n) (sym volumes) ∙ shows.within n (started n ∙ h);
}

-- what the index knows of GUIDs is as it was
pub kept_installed : (old new : Installed) (has : Guid → Bool) → new ≡ old → ((guid : Guid) (slot : ℕ) → value_of old.slots guid ≡ Some slot → is_there old guid ≡ has guid)
    → (guid : Guid) (slot : ℕ) → value_of new.slots guid ≡ Some slot → is_there new guid ≡ has guid
kept_installed old new has same knew =
    let P : Installed → Type 0 = λ i. (guid : Guid) (slot : ℕ) → value_of i.slots guid ≡ Some slot → is_there i guid ≡ has guid in
    subst P (sym same) knew

-- parts that came have not started
not_started : (catalog : Catalog) (queue : PeiQueue) (view : View) (volume n : ℕ) → Shows catalog queue view → AllDiffer (pei_order catalog view.reported ++ volume_order catalog volume)
    → has_number (volume_order catalog volume) n ≡ true → view.started n ≡ false
not_started catalog queue view volume n shows differ here = by (view.started n) refl
  where
    by : (b : Bool) → view.started n ≡ b → b ≡ false
    by false e = refl
    by true e =
        let there : has_number (pei_order catalog view.reported) n ≡ true = shows.within n e in
        let none = apart (pei_order catalog view.reported) (volume_order catalog volume) n differ here in
        absurd (cc)

pub order_with : (catalog : Catalog) (view : View) (volume : ℕ) → parts_of catalog (with_volumes (volume ∷ []) view) ≡ parts_of catalog view ++ volume_order catalog volume
order_with catalog view volume = order_more (volume_order catalog) view.reported volume

pub shows_reported : (catalog : Catalog) (old new : PeiQueue) (view : View) (volume : ℕ) (parts : List ℕ) → OrderIsOfModules → Shows catalog old view → AreNew (volume ∷ []) view
    → parts ≡ volume_order catalog volume → IsIndex catalog new.index → HaveCome old.index.phase catalog parts old.index.places new.index.places → new.index.phase ≡ old.index.phase
    → new.index.installed ≡ old.index.installed → Shows catalog new (with_volumes (volume ∷ []) view)
shows_reported catalog old new view volume parts law shows are_new is index come phase installed =
    let all = order_with catalog view volume in
    let differ : AllDiffer (pei_order catalog view.reported ++ volume_order catalog volume) = subst AllDiffer all (law catalog (view.reported ++ volume ∷ []) are_new).differ in
    let grown : order_in new.index ≡ order_in old.index ++ parts = come.order in
    let waiting : (n : ℕ) → has_number parts n ≡ true → view.started n ≡ false =
    λ n h. not_started catalog old view volume n shows differ (ap (λ xs. has_number xs n) (sym is) ∙ h) in
    let fresh : (n : ℕ) → has_number parts n ≡ true → IsNew true (standing_of new.index.places n) =
    λ n h. subst (λ (p : Phase). IsNew (opens p (part_at p catalog n)) (standing_of new.index.places n)) shows.phase (come.new_ones n h) in
    let front : (n : ℕ) → has_number parts n ≡ false → has_number (order_in new.index) n ≡ true → has_number (order_in old.index) n ≡ true =
    λ n none h. in_front (has_number (order_in old.index) n) (has_number parts n) none (sym (has_append (order_in old.index) parts n) ∙ ap (λ xs. has_number xs n) (sym grown) ∙ h) in
    record {
      of_catalog = index;
      phase = phase ∙ shows.phase;
      order = grown ∙ ap (λ xs. xs ++ parts) shows.order ∙ ap (λ xs. pei_order catalog view.reported ++ xs) is ∙ sym all;
      waits = λ n h. elim (either (has_number parts n)) [
        | inl here ↦ (fresh n here).waits ∙ ap not (sym (waiting n here))
        | inr none ↦ ap (λ (s : Standing). s.waits) (come.others n none) ∙ shows.waits n (front n none h)
      ];
      opens = λ n h. elim (either (has_number parts n)) [
        | inl here ↦ (fresh n here).«open»
        | inr none ↦ ap (λ (s : Standing). s.«open») (come.others n none) ∙ shows.opens n (front n none h)
      ];
      allowed = λ n h. elim (either (has_number parts n)) [
        | inl here ↦ (fresh n here).again ∙ ap (λ b. b && view.again n) (sym (waiting n here))
        | inr none ↦ ap (λ (s : Standing). s.again) (come.others n none) ∙ shows.allowed n (front n none h)
      ];
      installed = kept_installed old.index.installed new.index.installed view.has installed shows.installed;
      within = λ n h. ap (λ xs. has_number xs n) all ∙ has_front (pei_order catalog view.reported) (volume_order catalog volume) n (shows.within n h);
    }
  where
    in_front : (a b : Bool) → b ≡ false → (a || b) ≡ true → a ≡ true
    in_front true b e h = refl
    in_front false b e h = absurd (cc)

    either : (b : Bool) → (b ≡ true) ⊎ (b ≡ false)
    either true = inl refl
    either false = inr refl

-- the part at a place stands otherwise, and the order and the GUIDs are as they were
record IsTurned (change : Standing → Standing) (number : ℕ) (old new : WaitIndex) : Type 0 where
  here : standing_of new.places number ≡ change (standing_of old.places number)
  others : (n : ℕ) → ¬ (number ≡ n) → standing_of new.places n ≡ standing_of old.places n
  order : order_in new ≡ order_in old

turned : (change : Standing → Standing) (number place : ℕ) (old new : WaitIndex) → slice_get (order_in old) place ≡ Some number → Changes change place old new → IsTurned change number old new
turned change number place old new at changes = record {
  here = changes.changed.here number at;
  others = λ n apart. changes.changed.others n (λ e. let same : number ≡ n = cc in apart same);
  order = changes.changed.order;
}

pub shows_started : (catalog : Catalog) (old new : PeiQueue) (view : View) (number place : ℕ) → Shows catalog old view → IsInOrder catalog number view → slice_get (order_in old.index) place ≡ Some number
    → IsIndex catalog new.index → Changes C.started place old.index new.index → Shows catalog new (with_start number view)
shows_started catalog old new view number place shows among at index changes =
    let turn = turned C.started number place old.index new.index at changes in
    let before : (n : ℕ) → has_number (order_in new.index) n ≡ true → has_number (order_in old.index) n ≡ true = λ n h. ap (λ xs. has_number xs n) (sym turn.order) ∙ h in
    record {
      of_catalog = index;
      phase = changes.phase ∙ shows.phase;
      order = turn.order ∙ shows.order;
      waits = λ n h. elim (eqb_tells number n) [
        | inl same ↦ ap (λ k. (standing_of new.index.places k).waits) (sym same.1) ∙ ap (λ (s : Standing). s.waits) turn.here ∙ ap (λ b. not (b || view.started n)) (sym same.0)
        | inr other ↦ ap (λ (s : Standing). s.waits) (turn.others n other.1) ∙ shows.waits n (before n h) ∙ ap (λ b. not (b || view.started n)) (sym other.0)
      ];
      opens = λ n h. elim (eqb_tells number n) [
        | inl same ↦ ap (λ k. (standing_of new.index.places k).«open») (sym same.1) ∙ ap (λ (s : Standing). s.«open») turn.here ∙ ap (λ k. (standing_of old.index.places k).«open») same.1 ∙ shows.opens n (before n h)
        | inr other ↦ ap (λ (s : Standing). s.«open») (turn.others n other.1) ∙ shows.opens n (before n h)
      ];
      allowed = λ n h. elim (eqb_tells number n) [
        | inl same ↦ ap (λ k. (standing_of new.index.places k).again) (sym same.1) ∙ ap (λ (s : Standing). s.again) turn.here ∙ ap (λ b. (b || view.started n) && (not b && view.again n)) (sym same.0)
        | inr other ↦ ap (λ (s : Standing). s.again) (turn.others n other.1) ∙ shows.allowed n (before n h) ∙ ap (λ b. (b || view.started n) && (not b && view.again n)) (sym other.0)
      ];
      installed = kept_installed old.index.installed new.index.installed view.has changes.installed shows.installed;
      within = λ n h. elim (eqb_tells number n) [
        | inl same ↦ ap (λ k. has_number (pei_order catalog view.reported) k) (sym same.1) ∙ among
        | inr other ↦ shows.within n (ap (λ b. b || view.started n) (sym other.0) ∙ h)
      ];
    }

-- may start again: where the part has a place
pub shows_again : (catalog : Catalog) (old new : PeiQueue) (view : View) (number place : ℕ) → Shows catalog old view → HasStarted number view → slice_get (order_in old.index) place ≡ Some number
    → IsIndex catalog new.index → Changes C.again place old.index new.index → Shows catalog new (with_again (is_number number) view)
shows_again catalog old new view number place shows started at index changes =
    let turn = turned C.again number place old.index new.index at changes in
    let before : (n : ℕ) → has_number (order_in new.index) n ≡ true → has_number (order_in old.index) n ≡ true = λ n h. ap (λ xs. has_number xs n) (sym turn.order) ∙ h in
    record {
      of_catalog = index;
      phase = changes.phase ∙ shows.phase;
      order = turn.order ∙ shows.order;
      waits = λ n h. elim (eqb_tells number n) [
        | inl same ↦ ap (λ k. (standing_of new.index.places k).waits) (sym same.1) ∙ ap (λ (s : Standing). s.waits) turn.here ∙ ap (λ k. (standing_of old.index.places k).waits) same.1 ∙ shows.waits n (before n h)
        | inr other ↦ ap (λ (s : Standing). s.waits) (turn.others n other.1) ∙ shows.waits n (before n h)
      ];
      opens = λ n h. elim (eqb_tells number n) [
        | inl same ↦ ap (λ k. (standing_of new.index.places k).«open») (sym same.1) ∙ ap (λ (s : Standing). s.«open») turn.here ∙ ap (λ k. (standing_of old.index.places k).«open») same.1 ∙ shows.opens n (before n h)
        | inr other ↦ ap (λ (s : Standing). s.«open») (turn.others n other.1) ∙ shows.opens n (before n h)
      ];
      allowed = λ n h. elim (eqb_tells number n) [
        | inl same ↦
            let both : (view.started n && (view.again n || (number == n))) ≡ true = all_true (view.started n) (view.again n) (number == n) (ap view.started (sym same.1) ∙ started) same.0 in
            ap (λ k. (standing_of new.index.places k).again) (sym same.1) ∙ ap (λ (s : Standing). s.again) turn.here ∙ sym both
        | inr other ↦ ap (λ (s : Standing). s.again) (turn.others n other.1) ∙ shows.allowed n (before n h) ∙ nothing_more (view.started n) (view.again n) (number == n) other.0
      ];
      installed = kept_installed old.index.installed new.index.installed view.has changes.installed shows.installed;
      within = shows.within;
    }
  where
    all_true : (s a b : Bool) → s ≡ true → b ≡ true → (s && (a || b)) ≡ true
    all_true true true true e f = refl
    all_true true false true e f = refl
    all_true true a false e f = absurd (cc)
    all_true false a b e f = absurd (cc)

    nothing_more : (s a b : Bool) → b ≡ false → (s && a) ≡ (s && (a || b))
    nothing_more s a true e = absurd (cc)
    nothing_more true true false e = refl
    nothing_more true false false e = refl
    nothing_more false a false e = refl

-- and where it has none, nothing is asked of it
pub shows_without : (catalog : Catalog) (queue : PeiQueue) (view : View) (number : ℕ) → Shows catalog queue view → (has_number (order_in queue.index) number ≡ true → ⊥) → Shows catalog queue (with_again (is_number number) view)
shows_without catalog queue view number shows absent = record {
  of_catalog = shows.of_catalog;
  phase = shows.phase;
  order = shows.order;
  waits = shows.waits;
  opens = shows.opens;
  allowed = λ n h. elim (eqb_tells number n) [
    | inl same ↦ absurd (absent (ap (λ k. has_number (order_in queue.index) k) same.1 ∙ h))
    | inr other ↦ shows.allowed n h ∙ nothing_more (view.started n) (view.again n) (number == n) other.0
  ];
  installed = shows.installed;
  within = shows.within;
}
  where
    nothing_more : (s a b : Bool) → b ≡ false → (s && a) ≡ (s && (a || b))
    nothing_more s a true e = absurd (cc)
    nothing_more true true false e = refl
    nothing_more true false false e = refl
    nothing_more false a false e = refl

-- behind the parts so far, one more
pub again_more : (catalog : Catalog) (queue : PeiQueue) (view : View) (these more all : ℕ → Bool) → Shows catalog queue (with_again more (with_again these view))
    → ((n : ℕ) → view.started n ≡ true → (these n || more n) ≡ all n) → Shows catalog queue (with_again all view)
again_more catalog queue view these more all shows are =
    shows_alike catalog queue (with_again more (with_again these view)) (with_again all view) shows refl (λ n. refl)
    (λ n h. assoc (view.again n) (these n) (more n) ∙ ap (λ b. view.again n || b) (are n h)) (λ guid. refl)
  where
    assoc : (a b c : Bool) → ((a || b) || c) ≡ (a || (b || c))
    assoc true b c = refl
    assoc false b c = refl

-- the same parts, by another test
pub again_same : (catalog : Catalog) (queue : PeiQueue) (view : View) (these all : ℕ → Bool) → Shows catalog queue (with_again these view) → ((n : ℕ) → view.started n ≡ true → these n ≡ all n) → Shows catalog queue (with_again all view)
again_same catalog queue view these all shows are =
    shows_alike catalog queue (with_again these view) (with_again all view) shows refl (λ n. refl) (λ n h. ap (λ b. view.again n || b) (are n h)) (λ guid. refl)

-- and where there are none, as before
pub again_none : (catalog : Catalog) (queue : PeiQueue) (view : View) (these : ℕ → Bool) → Shows catalog queue view → ((n : ℕ) → these n ≡ false) → Shows catalog queue (with_again these view)
again_none catalog queue view these shows none =
    shows_alike catalog queue view (with_again these view) shows refl (λ n. refl) (λ n h. or_nothing (view.again n) (these n) (none n)) (λ guid. refl)
  where
    or_nothing : (a b : Bool) → b ≡ false → a ≡ (a || b)
    or_nothing a true e = absurd (cc)
    or_nothing true false e = refl
    or_nothing false false e = refl

-- and one volume more behind those so far
pub volumes_more : (catalog : Catalog) (queue : PeiQueue) (view : View) (volumes : List ℕ) (volume : ℕ) → Shows catalog queue (with_volumes (volume ∷ []) (with_volumes volumes view))
    → Shows catalog queue (with_volumes (volumes ++ volume ∷ []) view)
volumes_more catalog queue view volumes volume shows =
    shows_alike catalog queue (with_volumes (volume ∷ []) (with_volumes volumes view)) (with_volumes (volumes ++ volume ∷ []) view) shows (append_assoc view.reported volumes (volume ∷ [])) (λ n. refl) (λ n h. refl) (λ guid. refl)

pub shows_settled : (catalog : Catalog) (old new : PeiQueue) (view : View) → Shows catalog old view → IsIndex catalog new.index → IsSame old.index new.index → Shows catalog new view
shows_settled catalog old new view shows index same =
    let alike = same.kept.alike in
    let before : (n : ℕ) → has_number (order_in new.index) n ≡ true → has_number (order_in old.index) n ≡ true = λ n h. ap (λ xs. has_number xs n) (sym same.kept.order) ∙ h in
    record {
      of_catalog = index;
      phase = same.phase ∙ shows.phase;
      order = same.kept.order ∙ shows.order;
      waits = λ n h. (alike n).waits ∙ shows.waits n (before n h);
      opens = λ n h. (alike n).«open» ∙ shows.opens n (before n h);
      allowed = λ n h. (alike n).again ∙ shows.allowed n (before n h);
      installed = kept_installed old.index.installed new.index.installed view.has same.installed shows.installed;
      within = shows.within;
    }

-- the index of a queue that stands for the machine stands for it
pub stands_so : (catalog : Catalog) (m : PeiMachine) (queue : PeiQueue) → Shows catalog queue (view_of m) → StandsForPei catalog m queue.index
stands_so catalog m queue shows = record {
  phase = shows.phase;
  order = shows.order;
  waits = shows.waits;
  opens = shows.opens;
  again = shows.allowed;
  installed = shows.installed;
}
