-- The places of a list.
use Rattle.std.proofs.Common.{◌≡◌, ◌≢◌, ◌⊎◌, inl, inr, ℕ, zero, suc, ◌+◌, ◌-◌, ◌%◌, ◌<◌, ◌≤◌, ◌==◌, Bool, true, false, not, ◌||◌, cond, nat_lt, nat_le, List, [], ◌∷◌, ◌++◌, length, Option, Some, None, refl, sym, ap, ◌∙◌, subst, arith}
use Rattle.std.proofs.{lemmas.Bool.Decides.nat_tests, lemmas.Option.same_Some, lemmas.Option.none-some}
use Rattle.hob_codec.specs.{declared.fault.HobFault.HobFault, declared.list.HobPlace.HobPlace, declared.kind.TheConstants.END}
use Rattle.hob_codec.specs.declared.fault.HobFault.TheVariants.{Short, Length, NoEnd}
use Rattle.hob_codec.specs.HobReading.{kind_at, length_at, reading, behind, header_fault}
use Rattle.hob_codec.specs.HobList.{Leads, place_at, first_fault, fault_at, AreHobs, IsListFault}

-- one HOB more
pub leads_more : (bytes : List ℕ) (from : ℕ) (places : List HobPlace) (to : ℕ) → Leads bytes from places to → fault_at bytes to ≡ None → kind_at bytes to ≢ END
    → Leads bytes from (places ++ place_at bytes to ∷ []) (to + length_at bytes to)
leads_more bytes from [] to here sound more =
    let P : ℕ → Type 0 = λ n. Leads bytes n (place_at bytes to ∷ []) (to + length_at bytes to) in
    subst P (sym here) (refl, sound, more, refl)
leads_more bytes from (place ∷ places) to leads sound more = (leads.0, leads.1, leads.2, leads_more bytes (from + length_at bytes from) places to leads.3 sound more)

-- a place at which a list cannot go on
abbrev pub Stops : List ℕ → ℕ → Type 0
Stops bytes to = fault_at bytes to ≡ None → kind_at bytes to ≢ END → ⊥

-- two lists that cannot go on are one
pub one_list : (bytes : List ℕ) (from : ℕ) (a b : List HobPlace) (x y : ℕ) → Leads bytes from a x → Leads bytes from b y → Stops bytes x → Stops bytes y → (a ≡ b) × (x ≡ y)
one_list bytes from [] [] x y p q stop_x stop_y = (refl, sym p ∙ q)
one_list bytes from [] (b ∷ bs) x y p q stop_x stop_y = let P : ℕ → Type 0 = λ n. Stops bytes n in absurd (subst P (sym p) stop_x q.1 q.2)
one_list bytes from (a ∷ as_) [] x y p q stop_x stop_y = let P : ℕ → Type 0 = λ n. Stops bytes n in absurd (subst P (sym q) stop_y p.1 p.2)
one_list bytes from (a ∷ as_) (b ∷ bs) x y p q stop_x stop_y =
    let rest = one_list bytes (from + length_at bytes from) as_ bs x y p.3 q.3 stop_x stop_y in
    let same : a ≡ b = p.0 ∙ sym q.0 in
    let tail = rest.0 in
    (cc, rest.1)

at_end : (bytes : List ℕ) (to : ℕ) → kind_at bytes to ≡ END → Stops bytes to
at_end bytes to is sound more = more is

at_fault : (bytes : List ℕ) (to : ℕ) (fault : HobFault) → fault_at bytes to ≡ Some fault → Stops bytes to
at_fault bytes to fault is sound more = none-some fault (sym sound ∙ is)

pub lists_same : (bytes : List ℕ) (a b : List HobPlace) → AreHobs bytes a → AreHobs bytes b → a ≡ b
lists_same bytes a b p q = (one_list bytes 0 a b p.0 q.0 p.1 q.1 (at_end bytes p.0 p.3) (at_end bytes q.0 q.3)).0

pub faults_same : (bytes : List ℕ) (a b : HobFault) → IsListFault bytes a → IsListFault bytes b → a ≡ b
faults_same bytes a b p q =
    let one = one_list bytes 0 p.0 q.0 p.1 q.1 p.2 q.2 (at_fault bytes p.1 a p.3) (at_fault bytes q.1 b q.3) in
    same_Some a b (sym p.3 ∙ ap (fault_at bytes) one.1 ∙ q.3)

pub lists_apart : (bytes : List ℕ) (places : List HobPlace) (fault : HobFault) → AreHobs bytes places → IsListFault bytes fault → ⊥
lists_apart bytes places fault p q =
    let one = one_list bytes 0 places q.0 p.0 q.1 p.1 q.2 (at_end bytes p.0 p.3) (at_fault bytes q.1 fault q.3) in
    none-some fault (sym p.2 ∙ ap (fault_at bytes) one.1 ∙ q.3)

-- a list that goes on from place to place ends, or has a fault
abbrev no_fault : Option HobFault
no_fault = None

sound_header : (bytes : List ℕ) (at : ℕ) (fault : Option HobFault) → first_fault at (kind_at bytes at) (behind fault bytes at) ≡ None → fault ≡ None
sound_header bytes at None sound = refl
sound_header bytes at (Some fault) sound = absurd (none-some fault (sym sound))

sound_tests : (left len odd past : Bool) → cond left (Some Short) (cond ((len || odd) || past) (Some Length) no_fault) ≡ None → (left ≡ false) × (len ≡ false)
sound_tests true len odd past sound = absurd (none-some Short (sym sound))
sound_tests false true odd past sound = absurd (none-some Length (sym sound))
sound_tests false false odd past sound = (refl, refl)

sound_place : (bytes : List ℕ) (at : ℕ) (past : Bool) → nat_le (length bytes) at ≡ past → cond past (Some NoEnd) (first_fault at (kind_at bytes at) (reading bytes at)) ≡ None
    → (8 ≤ length bytes - at) × (8 ≤ length_at bytes at)
sound_place bytes at true is sound = absurd (none-some NoEnd (sym sound))
sound_place bytes at false is sound =
    let tests = sound_tests (nat_lt (length bytes - at) 8) (nat_lt (length_at bytes at) 8) (not (length_at bytes at % 8 == 0)) (nat_lt (length bytes - at) (length_at bytes at)) (sound_header bytes at (header_fault bytes at) sound) in
    (grind (arith, nat_tests, tests.0), grind (arith, nat_tests, tests.1))

abbrev Outcome : List ℕ → Type 0
Outcome bytes = ((places : List HobPlace) × AreHobs bytes places) ⊎ ((fault : HobFault) × IsListFault bytes fault)

-- from each place with fewer bytes left the list ends or has a fault
abbrev Follows : List ℕ → ℕ → Type 0
Follows bytes left = (places : List HobPlace) (at : ℕ) → length bytes - at < left → Leads bytes 0 places at → Outcome bytes

by_kind : (left : ℕ) (bytes : List ℕ) (places : List HobPlace) (at : ℕ) (ends : Bool) → Follows bytes left → (kind_at bytes at == END) ≡ ends → length bytes - at < suc left → Leads bytes 0 places at → fault_at bytes at ≡ None → Outcome bytes
by_kind left bytes places at true go is few leads sound = inl (places, (at, leads, sound, grind (arith, nat_tests, is)))
by_kind left bytes places at false go is few leads sound =
    let long = sound_place bytes at (nat_le (length bytes) at) refl sound in
    go (places ++ place_at bytes at ∷ []) (at + length_at bytes at) (omega (arith, few, long.0, long.1)) (leads_more bytes 0 places at leads sound (grind (arith, nat_tests, is)))

by_fault : (left : ℕ) (bytes : List ℕ) (places : List HobPlace) (at : ℕ) (fault : Option HobFault) → Follows bytes left → fault_at bytes at ≡ fault → length bytes - at < suc left → Leads bytes 0 places at → Outcome bytes
by_fault left bytes places at (Some fault) go is few leads = inr (fault, (places, at, leads, is))
by_fault left bytes places at None go sound few leads = by_kind left bytes places at (kind_at bytes at == END) go refl few leads sound

follows : (left : ℕ) (bytes : List ℕ) → Follows bytes left
follows zero bytes places at few leads = absurd (omega (arith, few))
follows (suc left) bytes places at few leads = by_fault left bytes places at (fault_at bytes at) (follows left bytes) refl few leads

-- all bytes are a list or have a first fault
pub some_list : (bytes : List ℕ) → Outcome bytes
some_list bytes = follows (length bytes + 1) bytes [] 0 (omega arith) refl
