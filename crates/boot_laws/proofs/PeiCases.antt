-- What each case of a step of PEI tells of the machine.
use Rattle.std.proofs.Common.{◌≡◌, ℕ, Bool, true, false, cond, List, [], ◌∷◌, Option, Some, None, refl, subst, option_map, is_some}
use Rattle.std.specs.Bool.{⊤}
use Rattle.boot_model.specs.PeiMachine.{Frame}
use Rattle.store_model.specs.{declared.store_handle.Firing.Firing, declared.store_handle.Sweep.Sweep, declared.state.Pending.Pending}
use Rattle.store_model.specs.{StoreState.StoreState, StoreState.Range, Migration.migration, Migration.migrated_to}
use Rattle.store_model.specs.Service.Queue.{queue_pop, popped}
use Rattle.boot_model.specs.PeiStep.{PeiCase, Fires, Acts, Moves, Pops, Starts, first_that_applies, acts}

-- the first that applies of these
abbrev pub cases : Option (Firing × Sweep) → List Frame → Option StoreState → Option (Firing × StoreState) → Option ℕ → PeiCase
cases a frames c d e =
    first_that_applies (option_map (λ pair. Fires pair.0 pair.1) a ∷ acts frames ∷ option_map (λ new. Moves new) c ∷ option_map (λ pair. Pops pair.0 pair.1) d ∷ option_map (λ n. Starts n) e ∷ [])

pub fires_from : (a : Option (Firing × Sweep)) (frames : List Frame) (c : Option StoreState) (d : Option (Firing × StoreState)) (e : Option ℕ) (firing : Firing) (sweep : Sweep)
    → cases a frames c d e ≡ Fires firing sweep → is_some a ≡ true
fires_from (Some a) frames c d e firing sweep h = refl
fires_from None (frame ∷ below) c d e firing sweep h = cc
fires_from None [] (Some c) d e firing sweep h = cc
fires_from None [] None (Some d) e firing sweep h = cc
fires_from None [] None None (Some e) firing sweep h = cc
fires_from None [] None None None firing sweep h = cc

-- a property of the frames that a top frame hands down to those below it
pub acts_from : (P : List Frame → Type 0) → ((top : Frame) (rest : List Frame) → P (top ∷ rest) → P rest)
    → (a : Option (Firing × Sweep)) (frames : List Frame) (c : Option StoreState) (d : Option (Firing × StoreState)) (e : Option ℕ) (frame : Frame) (below : List Frame)
    → cases a frames c d e ≡ Acts frame below → P frames → P below
acts_from P down (Some a) frames c d e frame below h p = cc
acts_from P down None (top ∷ rest) c d e frame below h p = let same : rest ≡ below = cc in subst P same (down top rest p)
acts_from P down None [] (Some c) d e frame below h p = cc
acts_from P down None [] None (Some d) e frame below h p = cc
acts_from P down None [] None None (Some e) frame below h p = cc
acts_from P down None [] None None None frame below h p = cc

-- the move sets `moved`, once
abbrev pub Migrated : StoreState → Option StoreState → Type 0
Migrated s None = ⊤
Migrated s (Some new) = (new.moved ≡ true) × (s.moved ≡ false)

migrated_by : (s : StoreState) (moved : Bool) (planned : Option Range) → s.moved ≡ moved → Migrated s (cond moved None (option_map (migrated_to s) planned))
migrated_by s true planned h = tt
migrated_by s false None h = tt
migrated_by s false (Some to) h = (refl, h)

pub migrated_is : (s : StoreState) → Migrated s (migration s)
migrated_is s = migrated_by s s.moved s.planned refl

pub moves_from : (s : StoreState) (a : Option (Firing × Sweep)) (frames : List Frame) (c : Option StoreState) (d : Option (Firing × StoreState)) (e : Option ℕ) (new : StoreState)
    → Migrated s c → cases a frames c d e ≡ Moves new → (new.moved ≡ true) × (s.moved ≡ false)
moves_from s (Some a) frames c d e new k h = cc
moves_from s None (frame ∷ below) c d e new k h = cc
moves_from s None [] (Some c) d e new k h = let same : c ≡ new = cc in subst (λ (x : StoreState). (x.moved ≡ true) × (s.moved ≡ false)) same k
moves_from s None [] None (Some d) e new k h = cc
moves_from s None [] None None (Some e) new k h = cc
moves_from s None [] None None None new k h = cc

-- a pair that leaves the queue does not move the store
abbrev pub Popped : StoreState → Option (Firing × StoreState) → Type 0
Popped s None = ⊤
Popped s (Some pair) = pair.1.moved ≡ s.moved

popped_by : (s : StoreState) (pendings : List Pending) → Popped s (popped s pendings)
popped_by s [] = tt
popped_by s (pending ∷ rest) = refl

pub popped_is : (s : StoreState) → Popped s (queue_pop s)
popped_is s = popped_by s s.pendings

pub pops_from : (s : StoreState) (a : Option (Firing × Sweep)) (frames : List Frame) (c : Option StoreState) (d : Option (Firing × StoreState)) (e : Option ℕ) (firing : Firing) (new : StoreState)
    → Popped s d → cases a frames c d e ≡ Pops firing new → (frames ≡ []) × (new.moved ≡ s.moved)
pops_from s (Some a) frames c d e firing new k h = cc
pops_from s None (frame ∷ below) c d e firing new k h = cc
pops_from s None [] (Some c) d e firing new k h = cc
pops_from s None [] None (Some d) e firing new k h = let same : d.1 ≡ new = cc in (refl, subst (λ (x : StoreState). x.moved ≡ s.moved) same k)
pops_from s None [] None None (Some e) firing new k h = cc
pops_from s None [] None None None firing new k h = cc

pub starts_from : (a : Option (Firing × Sweep)) (frames : List Frame) (c : Option StoreState) (d : Option (Firing × StoreState)) (e : Option ℕ) (number : ℕ)
    → cases a frames c d e ≡ Starts number → (frames ≡ []) × (e ≡ Some number)
starts_from (Some a) frames c d e number h = cc
starts_from None (frame ∷ below) c d e number h = cc
starts_from None [] (Some c) d e number h = cc
starts_from None [] None (Some d) e number h = cc
starts_from None [] None None (Some e) number h = let same : Some e ≡ Some number = cc in (refl, same)
starts_from None [] None None None number h = cc
