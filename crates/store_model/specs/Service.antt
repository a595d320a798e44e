-- What a call of a store answers: a value and the state after it, or a fault, which leaves the state as it was.
-- Each service is one function of the state before; a call over a store that is known by a relation is stated by `Answers` and `AfterEach`.
-- PI 1.8, volume 1, "PEI Services"; the faults and their needs are own.
pub mod Pool
pub mod Descriptor
pub mod Install
pub mod Notify
pub mod Sweep
pub mod Queue
pub mod Reading
pub mod Hob
pub mod Memory
use Rattle.std.specs.Prelude.{◌≡◌, ℕ, Bool, true, false, if◌then◌else◌, nat_lt, Option, Some, None, Result, Ok, Err}
use Rattle.pi_base.specs.declared.word.Word.{Word}
use Rattle.pi_base.specs.declared.word.Word.TheVariants.{InvalidParameter, NotFound, OutOfResources, NotAvailableYet}
use Rattle.store_model.specs.{declared.store_handle.StoreFault.StoreFault, StoreState.StoreState, StoreState.free}
use Rattle.store_model.specs.declared.store_handle.StoreFault.TheVariants as F

-- the answer with the state after it, or a fault, after which the state is the one before
abbrev pub Service : Type 0 → Type 0
Service A = Result (A × StoreState) StoreFault

-- the status that a refusal gives its caller; running out of memory gives none, since it ends the boot
abbrev pub fault_status : StoreFault → Option Word
fault_status F.Full = Some OutOfResources
fault_status F.Bad = Some InvalidParameter
fault_status F.Missing = Some NotFound
fault_status F.NotYet = Some NotAvailableYet
fault_status F.Memory = None

-- a call's answer and the state after it are those of the service; only a store that allocates may instead run out of memory
abbrev pub Answers : {A : Type 0} → Bool → Service A → StoreState → Result A StoreFault → StoreState → Type 0
Answers takes service old (Ok answer) new = service ≡ Ok (answer, new)
Answers takes service old (Err F.Memory) new = (takes ≡ true) × (new ≡ old)
Answers takes service old (Err F.Full) new = (service ≡ Err F.Full) × (new ≡ old)
Answers takes service old (Err F.Bad) new = (service ≡ Err F.Bad) × (new ≡ old)
Answers takes service old (Err F.Missing) new = (service ≡ Err F.Missing) × (new ≡ old)
Answers takes service old (Err F.NotYet) new = (service ≡ Err F.NotYet) × (new ≡ old)

-- a call that returns nothing, or a value with a new state
abbrev pub Takes : {A : Type 0} → Option (A × StoreState) → StoreState → Option A → StoreState → Type 0
Takes service old (Some answer) new = service ≡ Some (answer, new)
Takes service old None new = (service ≡ None) × (new ≡ old)

-- a call that answers whether it had an effect
abbrev pub Stores : Option StoreState → StoreState → Bool → StoreState → Type 0
Stores service old true new = service ≡ Some new
Stores service old false new = (service ≡ None) × (new ≡ old)

-- the store stands for some state that has what a call needs
abbrev pub Present : (StoreState → Type 0) → (StoreState → Type 0) → Type 0
Present Stands Needs = (s : StoreState) × Stands s × Needs s

-- the store stands for a state, and the state has a fact
abbrev pub And : (StoreState → Type 0) → (StoreState → Type 0) → StoreState → Type 0
And Stands Needs s = Stands s × Needs s

-- of each such state the answer is as R says
abbrev pub OfEach : (StoreState → Type 0) → (StoreState → Type 0) → (StoreState → Type 0) → Type 0
OfEach Stands Needs R = (s : StoreState) → Stands s → Needs s → R s

-- for each state that the store stood for there is one that it stands for now, and R holds of the two
abbrev pub AfterEach : (StoreState → Type 0) → (StoreState → Type 0) → (StoreState → StoreState → Type 0) → Type 0
AfterEach Before Now R = (old : StoreState) → Before old → (new : StoreState) × R old new × Now new

-- a call that may refuse: for each state that the store stood for, its answer and the state afterwards are those of the service
abbrev pub Performs : {A : Type 0} → Bool → (Before Now : StoreState → Type 0) → (StoreState → Service A) → Result A StoreFault → Type 0
Performs takes Before Now service result = AfterEach Before Now (λ old new. Answers takes (service old) old result new)

-- refused as Full if the need is more than what is free
abbrev pub in_room : {A : Type 0} → StoreState → ℕ → Service A → Service A
in_room s need service = if nat_lt (free s) need then Err F.Full else service

-- refused for an argument that is of the wrong kind or out of range
abbrev pub unless_bad : {A : Type 0} → Bool → Service A → Service A
unless_bad bad service = if bad then Err F.Bad else service
