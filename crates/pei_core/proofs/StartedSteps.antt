-- Only modules that have started run scripts: so it is at the opening, and after each step and each start.
use Rattle.std.proofs.Common.{◌≡◌, ℕ, zero, suc, ◌+◌, ◌/◌, ◌==◌, Bool, true, false, cond, List, [], ◌∷◌, sym, refl, ap, subst, arith, length, Option, Some, None, Ok, Err, nat_le, slice_get, unwrap_or, option_map, option_and_then}
use Rattle.std.specs.Bool.{⊤}
use Rattle.std.proofs.lemmas.Bool.Decides.{nat_tests}
use Rattle.pi_base.specs.{Lists.Each, declared.phase.Phase.TheVariants.Pei, declared.known_guid.TheConstants.MEMORY_PPI}
use Rattle.act_code.specs.{Index.is_indexed, declared.action.Action.Action}
use Rattle.mod_catalog.specs.{declared.catalogue.Catalog.Catalog, declared.catalogue.Part.Part, Parts.has_number, Parts.part_at}
use Rattle.store_model.specs.{declared.state.Body.Body, declared.state.DescriptorBody.DescriptorBody, declared.state.Entry.Entry}
use Rattle.store_model.specs.declared.state.Body.TheVariants.{Bytes, Descriptor, Node, Allocation}
use Rattle.store_model.specs.{declared.state.HobEntry.HobEntry, declared.state.Pending.Pending, declared.state.TheConstants.CORE}
use Rattle.store_model.specs.{declared.store_handle.Desc.Desc, declared.store_handle.DescKind.DescKind, declared.store_handle.Firing.Firing}
use Rattle.store_model.specs.declared.store_handle.DescKind.TheVariants.{Ppi, Callback, Dispatch}
use Rattle.store_model.specs.{declared.store_handle.GuidFrom.TheVariants.Inline, declared.store_handle.Sweep.Sweep, Service.Service}
use Rattle.store_model.specs.StoreState.{StoreState, Board, Range, body_from, hob_len}
use Rattle.store_model.specs.StateFacts.{IsStoreState, IsDescriptorAt, IsEntry, IsPending}
use Rattle.store_model.specs.Migration.{migration, migrated_to, moved_body, moved_hobs, moved_value}
use Rattle.store_model.specs.Service.Descriptor.{desc, descriptor_in, is_named, number_at}
use Rattle.store_model.specs.Service.Install.{install, both_or_full, core_of, core_install}
use Rattle.store_model.specs.Service.Queue.{queue_pop, popped, zeroed}
use Rattle.store_model.specs.Service.Sweep.{next_match, first_firing, firing_at, firing_of, have_one_guid, places_at, pairs_left}
use Rattle.boot_model.specs.declared.line.Line.TheVariants as L
use Rattle.boot_model.specs.{declared.phase_end.PeiEnd.TheVariants.Spent, declared.phase_end.PeiEnd.TheVariants.Deep, PeiRun.pei_opening}
use Rattle.boot_model.specs.PeiMachine.{PeiMachine, Frame, printed}
use Rattle.boot_model.specs.PeiAction.{Effect, Wrote, Called, Own, Shadowed, Logged, Skipped, Returned, effect}
use Rattle.boot_model.specs.PeiChoice.{next_peim}
use Rattle.boot_model.specs.PeiStep.{PeiCase, Fires, Acts, Moves, Pops, Starts, Stops, case_of, in_case, pei_step, callback_begun, open_sweep, action_at, after_effect, core_called, started as started_at, started_part, start_frames, swept}
use Rattle.boot_model.proofs.ListFacts.{each_more, has_here, has_later}
use Rattle.boot_laws.proofs.PeiCases.{cases}
use Rattle.pei_core.specs.Started.{HasStarted, IsEntryOf, IsBodyOf, AreOfStarted, RunsStarted}
use Rattle.pei_core.proofs.StartedHobs.{AreHobsOf, IsStoreOf, LeavesStore, action_leaves, changed_keeps, desc_keeps, install_keeps, Keeps}

pub opening_runs_started : (board : Board) (catalog : Catalog) → RunsStarted (pei_opening board catalog)
opening_runs_started board catalog = record { bodies = tt; frames_are = tt }

-- the body at a place is that of a HOB
body_on : (started : List ℕ) (b : Bool) (first : HobEntry) (then : Option Body) (body : Body) → IsBodyOf started first.body → (then ≡ Some body → IsBodyOf started body)
    → cond b (Some first.body) then ≡ Some body → IsBodyOf started body
body_on started true first then body is rest e = let same : first.body ≡ body = cc in subst (IsBodyOf started) same is
body_on started false first then body is rest e = rest e

body_is : (started : List ℕ) (hobs : List HobEntry) (at place : ℕ) (body : Body) → AreHobsOf started hobs → body_from at hobs place ≡ Some body → IsBodyOf started body
body_is started [] at place body each e = cc
body_is started (first ∷ hobs) at place body each e =
    body_on started (at + 8 == place) first (body_from (at + hob_len first) hobs place) body each.0 (body_is started hobs (at + hob_len first) place body each.1) e

-- a notification's entry
number_is : (started : List ℕ) (s : StoreState) (kind : DescKind) (place : ℕ) → IsStoreOf started s → IsDescriptorAt s kind place → IsEntryOf started kind (number_at s place)
number_is started s kind place of is =
    let d : DescriptorBody = is.0 in
    let body : IsEntryOf started d.kind d.number = body_is started s.hobs 56 place (Descriptor d) of is.1 in
    let same : d.number ≡ number_at s place = ap (λ o. unwrap_or (option_map (λ found. found.number) (descriptor_in o)) 0) (sym is.1) in
    subst (λ n. IsEntryOf started kind n) same (subst (λ k. IsEntryOf started k d.number) is.2 body)

-- what fires
abbrev FiresStarted : List ℕ → Option (Firing × Sweep) → Type 0
FiresStarted started None = ⊤
FiresStarted started (Some pair) = HasStarted started (pair.0.entry / 64)

nth_is : (s : StoreState) (entries : List Entry) (n : ℕ) (entry : Entry) → Each (IsEntry s Callback) entries → slice_get entries n ≡ Some entry → IsEntry s Callback entry
nth_is s [] n entry each e = cc
nth_is s (first ∷ entries) zero entry each e = let same : first ≡ entry = cc in subst (λ x. IsEntry s Callback x) same each.0
nth_is s (first ∷ entries) (suc n) entry each e = nth_is s entries n entry each.1 e

pair_fires : (started : List ℕ) (s : StoreState) (sweep : Sweep) (pair : ℕ × ℕ) (ppi callback : Option Entry) → IsStoreOf started s
    → ((entry : Entry) → callback ≡ Some entry → IsEntry s Callback entry)
    → FiresStarted started (option_map (λ (places : ℕ × ℕ). (firing_of s places.0 places.1, record sweep { ppi_at = pair.0; note_at = pair.1 + 1 })) (option_and_then (λ (found : Entry). option_map (λ (other : Entry). (found.descriptor, other.descriptor)) callback) ppi))
pair_fires started s sweep pair None callback of g = tt
pair_fires started s sweep pair (Some ppi) None of g = tt
pair_fires started s sweep pair (Some ppi) (Some callback) of g = number_is started s Callback callback.descriptor of (g callback refl).1

fires_or : (started : List ℕ) (b : Bool) (one other : Option (Firing × Sweep)) → FiresStarted started one → FiresStarted started other → FiresStarted started (cond b one other)
fires_or started true one other h k = h
fires_or started false one other h k = k

first_fires : (started : List ℕ) (s : StoreState) (sweep : Sweep) (pairs : List (ℕ × ℕ)) → IsStoreState s → IsStoreOf started s → FiresStarted started (first_firing s sweep pairs)
first_fires started s sweep [] facts of = tt
first_fires started s sweep (pair ∷ pairs) facts of =
    fires_or started (have_one_guid s (places_at s pair)) (firing_at s sweep pair) (first_firing s sweep pairs)
    (pair_fires started s sweep pair (slice_get s.ppis pair.0) (slice_get s.callbacks pair.1) of (λ entry. nth_is s s.callbacks pair.1 entry facts.callbacks))
    (first_fires started s sweep pairs facts of)

open_fires : (started : List ℕ) (s : StoreState) (sweep : Option Sweep) → IsStoreState s → IsStoreOf started s → FiresStarted started (option_and_then (next_match s) sweep)
open_fires started s None facts of = tt
open_fires started s (Some sweep) facts of = first_fires started s sweep (pairs_left sweep) facts of

fires_with : (started : List ℕ) (a : Option (Firing × Sweep)) (frames : List Frame) (c : Option StoreState) (d : Option (Firing × StoreState)) (e : Option ℕ) (firing : Firing) (sweep : Sweep)
    → FiresStarted started a → cases a frames c d e ≡ Fires firing sweep → HasStarted started (firing.entry / 64)
fires_with started (Some pair) frames c d e firing sweep is h = let one : pair.0 ≡ firing = cc in subst (λ x. HasStarted started (x.entry / 64)) one is
fires_with started None (frame ∷ below) c d e firing sweep is h = cc
fires_with started None [] (Some c) d e firing sweep is h = cc
fires_with started None [] None (Some d) e firing sweep is h = cc
fires_with started None [] None None (Some e) firing sweep is h = cc
fires_with started None [] None None None firing sweep is h = cc

-- the pair that leaves the queue, and the state behind it
abbrev PopsStarted : List ℕ → Option (Firing × StoreState) → Type 0
PopsStarted started None = ⊤
PopsStarted started (Some pair) = HasStarted started (pair.0.entry / 64) × IsStoreOf started pair.1

first_pops : (started : List ℕ) (s : StoreState) (pendings : List Pending) → IsStoreOf started s → Each (IsPending s) pendings → PopsStarted started (popped s pendings)
first_pops started s [] of each = tt
first_pops started s (first ∷ rest) of each =
    (number_is started s Dispatch first.descriptor of each.0.1, changed_keeps started zeroed s.hobs 56 first.node (λ body is. tt) of)

pops_with : (started : List ℕ) (a : Option (Firing × Sweep)) (frames : List Frame) (c : Option StoreState) (d : Option (Firing × StoreState)) (e : Option ℕ) (firing : Firing) (new : StoreState)
    → PopsStarted started d → cases a frames c d e ≡ Pops firing new → HasStarted started (firing.entry / 64) × IsStoreOf started new
pops_with started (Some a) frames c d e firing new is h = cc
pops_with started None (frame ∷ below) c d e firing new is h = cc
pops_with started None [] (Some c) d e firing new is h = cc
pops_with started None [] None (Some pair) e firing new is h =
    let one : pair.0 ≡ firing = cc in let other : pair.1 ≡ new = cc in
    (subst (λ x. HasStarted started (x.entry / 64)) one is.0, subst (λ t. IsStoreOf started t) other is.1)
pops_with started None [] None None (Some e) firing new is h = cc
pops_with started None [] None None None firing new is h = cc

-- the move
value_is : (started : List ℕ) (s : StoreState) (to : Range) (kind : DescKind) (number : ℕ) → IsEntryOf started kind number → IsEntryOf started kind (moved_value s to kind number)
value_is started s to Ppi number is = tt
value_is started s to Callback number is = is
value_is started s to Dispatch number is = is

either_body : (started : List ℕ) (b : Bool) (one other : Body) → IsBodyOf started one → IsBodyOf started other → IsBodyOf started (cond b one other)
either_body started true one other h k = h
either_body started false one other h k = k

moved_is : (started : List ℕ) (s : StoreState) (to : Range) (place : ℕ) (body : Body) → IsBodyOf started body → IsBodyOf started (moved_body s to place body)
moved_is started s to place (Descriptor d) is = either_body started (is_named s place) _ _ (value_is started s to d.kind d.number is) tt
moved_is started s to place (Bytes bytes) is = tt
moved_is started s to place Node is = tt
moved_is started s to place (Allocation a) is = tt

moved_are : (started : List ℕ) (s : StoreState) (to : Range) (at : ℕ) (hobs : List HobEntry) → AreHobsOf started hobs → AreHobsOf started (moved_hobs s to at hobs)
moved_are started s to at [] each = tt
moved_are started s to at (hob ∷ hobs) each = (moved_is started s to (at + 8) hob.body each.0, moved_are started s to (at + hob_len hob) hobs each.1)

abbrev MovesStarted : List ℕ → Option StoreState → Type 0
MovesStarted started None = ⊤
MovesStarted started (Some new) = IsStoreOf started new

migrated_is : (started : List ℕ) (s : StoreState) (planned : Option Range) → IsStoreOf started s → MovesStarted started (option_map (migrated_to s) planned)
migrated_is started s None of = tt
migrated_is started s (Some to) of = moved_are started s to 56 s.hobs of

migration_is : (started : List ℕ) (s : StoreState) (b : Bool) → IsStoreOf started s → MovesStarted started (cond b None (option_map (migrated_to s) s.planned))
migration_is started s true of = tt
migration_is started s false of = migrated_is started s s.planned of

moves_with : (started : List ℕ) (a : Option (Firing × Sweep)) (frames : List Frame) (c : Option StoreState) (d : Option (Firing × StoreState)) (e : Option ℕ) (new : StoreState)
    → MovesStarted started c → cases a frames c d e ≡ Moves new → IsStoreOf started new
moves_with started (Some a) frames c d e new is h = cc
moves_with started None (frame ∷ below) c d e new is h = cc
moves_with started None [] (Some c) d e new is h = let same : c ≡ new = cc in subst (IsStoreOf started) same is
moves_with started None [] None (Some d) e new is h = cc
moves_with started None [] None None (Some e) new is h = cc
moves_with started None [] None None None new is h = cc

-- the core's own call
core_or_full : (started : List ℕ) (service : Service Sweep) → Keeps started service → Keeps started (both_or_full service)
core_or_full started (Ok pair) k = k
core_or_full started (Err fault) k = tt

core_made : (started : List ℕ) (service : Service Desc) → Keeps started service → Keeps started (core_of service)
core_made started (Ok (d, made)) k = core_or_full started (install made (d ∷ []) CORE) (install_keeps started made (d ∷ []) CORE k)
core_made started (Err fault) k = tt

core_keeps : (started : List ℕ) (s : StoreState) → IsStoreOf started s → Keeps started (core_install s)
core_keeps started s of = core_made started (desc s Ppi (Inline MEMORY_PPI) 0) (desc_keeps started s Ppi 0 (Some (MEMORY_PPI, None)) tt of)

called_is : (m : PeiMachine) (service : Service Sweep) → Keeps m.started service → RunsStarted m → RunsStarted (core_called m service)
called_is m (Ok pair) k runs = record { bodies = k; frames_are = runs.frames_are }
called_is m (Err fault) k runs = record { bodies = runs.bodies; frames_are = runs.frames_are }

-- an action
acts_with : (a : Option (Firing × Sweep)) (frames : List Frame) (c : Option StoreState) (d : Option (Firing × StoreState)) (e : Option ℕ) (frame : Frame) (below : List Frame)
    → cases a frames c d e ≡ Acts frame below → frames ≡ frame ∷ below
acts_with (Some a) frames c d e frame below h = cc
acts_with None (top ∷ rest) c d e frame below h = cc
acts_with None [] (Some c) d e frame below h = cc
acts_with None [] None (Some d) e frame below h = cc
acts_with None [] None None (Some e) frame below h = cc
acts_with None [] None None None frame below h = cc

either_runs : (b : Bool) (one other : PeiMachine) → RunsStarted one → RunsStarted other → RunsStarted (cond b one other)
either_runs true one other h k = h
either_runs false one other h k = k

effect_runs : (catalog : Catalog) (m : PeiMachine) (frame : Frame) (below : List Frame) (does : Effect) → LeavesStore m.started does → AreOfStarted m.started m.store.hobs (frame ∷ below) → RunsStarted (after_effect catalog m frame below does)
effect_runs catalog m frame below (Wrote registers status) leaves parts = record { bodies = parts.bodies; frames_are = parts.frames_are }
effect_runs catalog m frame below (Called name reply) leaves parts = record { bodies = leaves; frames_are = parts.frames_are }
effect_runs catalog m frame below (Own Shadowed) leaves parts =
    either_runs (has_number m.shadows frame.module_number) _ _ (record { bodies = parts.bodies; frames_are = parts.frames_are }) (record { bodies = parts.bodies; frames_are = parts.frames_are })
effect_runs catalog m frame below (Logged text) leaves parts = record { bodies = parts.bodies; frames_are = parts.frames_are }
effect_runs catalog m frame below (Skipped n) leaves parts = record { bodies = parts.bodies; frames_are = parts.frames_are }
effect_runs catalog m frame below (Returned status) leaves parts = record { bodies = parts.bodies; frames_are = parts.frames_are.1 }

-- a start
has_first : (x : ℕ) (xs : List ℕ) → has_number (x ∷ xs) x ≡ true
has_first x xs = let e : (x == x) ≡ true = grind (arith, nat_tests) in has_here (x == x) (has_number xs x) e

starts_of : (started : List ℕ) (number : ℕ) (blocks : List (List Action)) → HasStarted started number → Each (λ (frame : Frame). HasStarted started frame.module_number) (start_frames number blocks)
starts_of started number [] is = tt
starts_of started number (block ∷ blocks) is = (is, tt)

entry_more : (number : ℕ) (started : List ℕ) (kind : DescKind) (entry : ℕ) → IsEntryOf started kind entry → IsEntryOf (number ∷ started) kind entry
entry_more number started Ppi entry is = tt
entry_more number started Callback entry is = has_later (number == entry / 64) _ is
entry_more number started Dispatch entry is = has_later (number == entry / 64) _ is

body_more : (number : ℕ) (started : List ℕ) (body : Body) → IsBodyOf started body → IsBodyOf (number ∷ started) body
body_more number started (Bytes bytes) is = tt
body_more number started (Descriptor d) is = entry_more number started d.kind d.number is
body_more number started Node is = tt
body_more number started (Allocation a) is = tt

with_one : (b : Bool) (m : PeiMachine) (number : ℕ) (blocks : List (List Action)) → has_number m.started number ≡ b → AreHobsOf m.started m.store.hobs
    → AreOfStarted (cond b m.started (number ∷ m.started)) m.store.hobs (start_frames number blocks)
with_one true m number blocks e bodies = record { bodies = bodies; frames_are = starts_of m.started number blocks e }
with_one false m number blocks e bodies = record {
  bodies = each_more (λ hob. IsBodyOf m.started hob.body) (λ hob. IsBodyOf (number ∷ m.started) hob.body) m.store.hobs (λ hob is. body_more number m.started hob.body is) bodies;
  frames_are = starts_of (number ∷ m.started) number blocks (has_first number m.started);
}

part_starts : (catalog : Catalog) (m : PeiMachine) (number : ℕ) (part : Option Part) → RunsStarted m → RunsStarted (started_part catalog m number part)
part_starts catalog m number None runs = runs
part_starts catalog m number (Some part) runs = with_one (has_number m.started number) m number part.script.blocks refl runs.bodies

pub starts_run_started : (catalog : Catalog) (m : PeiMachine) (number : ℕ) → RunsStarted m → RunsStarted (started_at catalog m number)
starts_run_started catalog m number runs = part_starts catalog m number (part_at Pei catalog number) runs

-- a callback
swept_are : (started : List ℕ) (frames : List Frame) (sweep : Sweep) → Each (λ frame. HasStarted started frame.module_number) frames → Each (λ frame. HasStarted started frame.module_number) (swept frames sweep)
swept_are started [] sweep each = tt
swept_are started (frame ∷ below) sweep each = each

case_runs : (catalog : Catalog) (fuel : ℕ) (m : PeiMachine) (case : PeiCase) → case_of catalog m ≡ case → ((frame : Frame) → is_indexed 64 (action_at catalog frame) ≡ true)
    → IsStoreState m.store → RunsStarted m → RunsStarted (in_case catalog fuel m case)
case_runs catalog fuel m (Fires firing sweep) e names facts runs =
    let visited = open_fires m.started m.store (open_sweep m m.frames) facts runs.bodies in
    let own = fires_with m.started _ m.frames (migration m.store) (queue_pop m.store) (next_peim catalog m) firing sweep visited e in
    either_runs (nat_le 64 (length m.frames)) (record m { ended = Some Deep }) (callback_begun catalog m firing sweep) (record { bodies = runs.bodies; frames_are = runs.frames_are })
    (record { bodies = runs.bodies; frames_are = (own, swept_are m.started m.frames sweep runs.frames_are) })
case_runs catalog fuel m (Acts frame below) e names facts runs =
    let stand : m.frames ≡ frame ∷ below = acts_with (option_and_then (next_match m.store) (open_sweep m m.frames)) m.frames (migration m.store) (queue_pop m.store) (next_peim catalog m) frame below e in
    let parts : AreOfStarted m.started m.store.hobs (frame ∷ below) = subst (λ frames. AreOfStarted m.started m.store.hobs frames) stand runs in
    either_runs (nat_le fuel m.actions) (record m { ended = Some Spent }) _ (record { bodies = runs.bodies; frames_are = runs.frames_are })
    (effect_runs catalog (record m { actions = m.actions + 1 }) frame below (effect m.store frame (action_at catalog frame)) (action_leaves m.started m.store frame (action_at catalog frame) (names frame) parts.frames_are.0 parts.bodies) parts)
case_runs catalog fuel m (Moves new) e names facts runs =
    let of = moves_with m.started (option_and_then (next_match m.store) (open_sweep m m.frames)) m.frames (migration m.store) (queue_pop m.store) (next_peim catalog m) new (migration_is m.started m.store m.store.moved runs.bodies) e in
    called_is (record (printed m (L.Migrate m.store.base new.base ∷ [])) { store = new }) (core_install new) (core_keeps m.started new of) (record { bodies = of; frames_are = runs.frames_are })
case_runs catalog fuel m (Pops firing new) e names facts runs =
    let own = pops_with m.started (option_and_then (next_match m.store) (open_sweep m m.frames)) m.frames (migration m.store) (queue_pop m.store) (next_peim catalog m) firing new (first_pops m.started m.store m.store.pendings runs.bodies facts.pendings) e in
    record { bodies = own.1; frames_are = (own.0, tt) }
case_runs catalog fuel m (Starts number) e names facts runs = starts_run_started catalog m number runs
case_runs catalog fuel m Stops e names facts runs = record { bodies = runs.bodies; frames_are = runs.frames_are }

pub steps_run_started : (catalog : Catalog) (fuel : ℕ) (m : PeiMachine) → ((frame : Frame) → is_indexed 64 (action_at catalog frame) ≡ true) → IsStoreState m.store → RunsStarted m → RunsStarted (pei_step catalog fuel m)
steps_run_started catalog fuel m names facts runs = case_runs catalog fuel m (case_of catalog m) refl names facts runs
