-- The starts of a boot beside those of an order, one behind the other.
use Rattle.std.proofs.Common.{◌≡◌, ℕ, zero, suc, ◌+◌, ◌<◌, ◌≤◌, ◌==◌, Bool, true, false, true≢false, ◌&&◌, List, [], ◌∷◌, ◌++◌, length, Option, Some, None, is_none, is_some, refl, sym, ap, ◌∙◌, subst, inl, inr, arith, append_assoc, slice_get, take, unwrap_or, option_map, append-nil, length-append}
use Rattle.std.proofs.{lemmas.Bool.Decides.eqb_tells, lemmas.Slice.Eq.bytes_eq-Decides, lemmas.Cmp.nat_list_eq_equiv}
use Rattle.pi_base.specs.{declared.guid.Guid.Guid, declared.phase.Phase.Phase}
use Rattle.pi_base.specs.{declared.phase.Phase.TheVariants.Pei, declared.phase.Phase.TheVariants.Dxe, Guids.same_guid}
use Rattle.mod_catalog.specs.{declared.catalogue.Catalog.Catalog, declared.catalogue.Module.Module, Parts.module_name, Parts.module_volume}
use Rattle.recorded_boot.specs.{declared.order.line.AskedStart.AskedStart, declared.order.line.Start.Start}
use Rattle.recorded_boot.specs.{declared.order.lines.StartOrder.StartOrder, Starts.ComeFirst, Starts.module_start}
use Rattle.recorded_boot.specs.{Along.IsAlong, Along.IsIndex, Finding.same_start, Named.HasNoTwins, Named.IsNamed}
use Rattle.recorded_boot.proofs.Modules.{one_module}
use Rattle.recorded_boot.specs.ByOrder.{IsNumberOf, NamesAsked, NamesNext, NamesStart, is_of, is_start_of, lets_asked, lets_by, same_phase, starts_of}

-- what an order asks for behind these starts: it asks for this one next, behind as many
pub record AsksNext (order : StartOrder) (made : List Start) (index : ℕ) (asked : AskedStart) : Type 0 where
  pub before : List AskedStart
  pub behind : List AskedStart
  pub are : order.starts ≡ before ++ asked ∷ behind
  pub made_are : starts_of before ≡ made
  pub front : starts_of (take index order.starts) ≡ made

pub get_below : {A : Type 0} (xs : List A) (n : ℕ) (x : A) → slice_get xs n ≡ Some x → n < length xs
get_below [] n x e = cc
get_below (y ∷ xs) zero x e = omega arith
get_below (y ∷ xs) (suc n) x e = let less = get_below xs n x e in omega (arith, less)

get_none : {A : Type 0} (xs : List A) (n : ℕ) → slice_get xs n ≡ None → length xs ≤ n
get_none [] n e = omega arith
get_none (y ∷ xs) zero e = cc
get_none (y ∷ xs) (suc n) e = let more = get_none xs n e in omega (arith, more)

starts_length : (asked : List AskedStart) → length (starts_of asked) ≡ length asked
starts_length [] = refl
starts_length (a ∷ asked) = ap suc (starts_length asked)

head_is : (a b : Start) (xs ys : List Start) → a ∷ xs ≡ b ∷ ys → a ≡ b
head_is a b xs ys e = cc

tail_is : (a b : Start) (xs ys : List Start) → a ∷ xs ≡ b ∷ ys → xs ≡ ys
tail_is a b xs ys e = cc

-- the order is those that were made, what it asks for next, and others
pub record Splits (asked : List AskedStart) (made : List Start) (next : AskedStart) : Type 0 where
  pub before : List AskedStart
  pub behind : List AskedStart
  pub are : asked ≡ before ++ next ∷ behind
  pub made_are : starts_of before ≡ made

first_splits : (asked : List AskedStart) (next : AskedStart) → slice_get asked 0 ≡ Some next → Splits asked [] next
first_splits [] next e = cc
first_splits (a ∷ asked) next e = let same : a ≡ next = cc in record { before = []; behind = asked; are = ap (λ x. x ∷ asked) same; made_are = refl }

splits : (asked : List AskedStart) (made rest : List Start) (next : AskedStart) → slice_get asked (length made) ≡ Some next → starts_of asked ≡ made ++ rest → Splits asked made next
splits asked [] rest next e is = first_splits asked next e
splits [] (s ∷ made) rest next e is = cc
splits (a ∷ asked) (s ∷ made) rest next e is =
    let on = splits asked made rest next e (tail_is a.start s (starts_of asked) (made ++ rest) is) in
    record {
      before = a ∷ on.before;
      behind = on.behind;
      are = ap (λ x. a ∷ x) on.are;
      made_are = ap (λ x. x ∷ starts_of on.before) (head_is a.start s (starts_of asked) (made ++ rest) is) ∙ ap (λ x. s ∷ x) on.made_are;
    }

-- as many of the lines have those starts
take_made : (asked : List AskedStart) (made rest : List Start) → starts_of asked ≡ made ++ rest → starts_of (take (length made) asked) ≡ made
take_made asked [] rest is = refl
take_made [] (s ∷ made) rest is = cc
take_made (a ∷ asked) (s ∷ made) rest is =
    ap (λ x. x ∷ starts_of (take (length made) asked)) (head_is a.start s (starts_of asked) (made ++ rest) is) ∙ ap (λ x. s ∷ x) (take_made asked made rest (tail_is a.start s (starts_of asked) (made ++ rest) is))

-- where the order asks for a start there, those that were made are those before it
pub asks_next : (order : StartOrder) (made : List Start) (index : ℕ) (asked : AskedStart) → IsAlong order made → IsIndex order made index → slice_get order.starts index ≡ Some asked → AsksNext order made index asked
asks_next order made index asked along at e = by along at
  where
    below : index < length order.starts
    below = get_below order.starts index asked e

    by : IsAlong order made → IsIndex order made index → AsksNext order made index asked
    by along (inr far) = let less = below in let more = far.0 in absurd (omega (arith, less, more))
    by (inl first) (inl is) =
        let s = splits order.starts made first.0 asked (subst (λ n. slice_get order.starts n ≡ Some asked) is e) first.1 in
        record { before = s.before; behind = s.behind; are = s.are; made_are = s.made_are; front = ap (λ n. starts_of (take n order.starts)) is ∙ take_made order.starts made first.0 first.1 }
    by (inr on) (inl is) =
        let less = below in
        let all = starts_length order.starts in
        let more = ap length on.1.1 ∙ length-append (starts_of order.starts) on.1.0 in
        absurd (omega (arith, less, is, all, more))

-- where it asks for none there, they are no fewer than its own
pub asks_none : (order : StartOrder) (made : List Start) (index : ℕ) → IsIndex order made index → slice_get order.starts index ≡ None → length order.starts ≤ length made
asks_none order made index (inl is) e = let more = get_none order.starts index e in omega (arith, is, more)
asks_none order made index (inr far) e = far.1

nothing_left : (rest : List Start) (n m : ℕ) → n + length rest ≡ m → m ≤ n → rest ≡ []
nothing_left [] n m e le = refl
nothing_left (r ∷ rest) n m e le = absurd (omega (arith, e, le))

-- then all of its starts were made
pub all_made : (order : StartOrder) (made : List Start) → IsAlong order made → length order.starts ≤ length made → ComeFirst (starts_of order.starts) made
all_made order made (inr on) le = on.1
all_made order made (inl first) le =
    let all = starts_length order.starts in
    let sum = ap length first.1 ∙ length-append made first.0 in
    let none = nothing_left first.0 (length made) (length (starts_of order.starts)) (sym sum) (omega (arith, all, le)) in
    ([], sym (append-nil (starts_of order.starts) ∙ first.1 ∙ ap (λ x. made ++ x) none ∙ append-nil made))

-- and where it stops there, no others
pub stops_there : (order : StartOrder) (made : List Start) → IsAlong order made → length order.starts ≤ length made → is_some order.stop ≡ true → made ≡ starts_of order.starts
stops_there order made (inr on) le some = let gone : false ≡ true = ap is_some (sym on.0) ∙ some in cc
stops_there order made (inl first) le some =
    let all = starts_length order.starts in
    let sum = ap length first.1 ∙ length-append made first.0 in
    let none = nothing_left first.0 (length made) (length (starts_of order.starts)) (sym sum) (omega (arith, all, le)) in
    sym (first.1 ∙ ap (λ x. made ++ x) none ∙ append-nil made)

-- a start is that of a module in a phase
same_phases : (a b : Phase) → same_phase a b ≡ true → a ≡ b
same_phases Pei Pei e = refl
same_phases Dxe Dxe e = refl
same_phases Pei Dxe e = cc
same_phases Dxe Pei e = cc

pub phase_self : (a : Phase) → same_phase a a ≡ true
phase_self Pei = refl
phase_self Dxe = refl

and_both : (a b : Bool) → (a && b) ≡ true → (a ≡ true) × (b ≡ true)
and_both true b e = (refl, e)
and_both false b e = cc

nats_same : (a b : ℕ) → (a == b) ≡ true → a ≡ b
nats_same a b e = elim (eqb_tells a b) [
  | inl same ↦ same.1
  | inr other ↦ absurd (true≢false (sym e ∙ other.0))
]

pub nat_self : (a : ℕ) → (a == a) ≡ true
nat_self a = elim (eqb_tells a a) [
  | inl same ↦ same.0
  | inr other ↦ absurd (other.1 refl)
]

pub same_starts : (one other : Start) → same_start one other ≡ true → one ≡ other
same_starts one other e =
    let first = and_both (same_phase one.phase other.phase) (one.volume == other.volume && same_guid one.name other.name) e in
    let second = and_both (one.volume == other.volume) (same_guid one.name other.name) first.1 in
    let of : (Phase × ℕ × Guid) → Start = λ t. record { phase = t.0; volume = t.1; name = t.2 } in
    let here : Phase × ℕ × Guid = (one.phase, one.volume, one.name) in
    let there : Phase × ℕ × Guid = (other.phase, other.volume, other.name) in
    let p : one.phase ≡ other.phase = same_phases one.phase other.phase first.0 in
    let v : one.volume ≡ other.volume = nats_same one.volume other.volume second.0 in
    let n : one.name ≡ other.name = ap (λ bytes. record { 0 = bytes }) ((bytes_eq-Decides one.name.0 other.name.0).0 second.1) in
    let same : here ≡ there = cc in
    ap of same

made_of : (phase : Phase) (start : Start) (m : Module) → is_of phase start (Some m) ≡ true → start ≡ record { phase = phase; volume = m.volume; name = m.name }
made_of phase start m e =
    let one = and_both (same_phase start.phase phase) (m.volume == start.volume && same_guid m.name start.name) e in
    let two = and_both (m.volume == start.volume) (same_guid m.name start.name) one.1 in
    let of : (Phase × ℕ × Guid) → Start = λ t. record { phase = t.0; volume = t.1; name = t.2 } in
    let here : Phase × ℕ × Guid = (start.phase, start.volume, start.name) in
    let there : Phase × ℕ × Guid = (phase, m.volume, m.name) in
    let p : start.phase ≡ phase = same_phases start.phase phase one.0 in
    let v : m.volume ≡ start.volume = nats_same m.volume start.volume two.0 in
    let n : m.name ≡ start.name = ap (λ bytes. record { 0 = bytes }) ((bytes_eq-Decides m.name.0 start.name.0).0 two.1) in
    let same : here ≡ there = cc in
    ap of same

pub start_is : (catalog : Catalog) (phase : Phase) (number : ℕ) (start : Start) → is_start_of catalog phase number start ≡ true → start ≡ module_start phase catalog number
start_is catalog phase number start e = by (slice_get catalog.modules number) refl e
  where
    by : (o : Option Module) → slice_get catalog.modules number ≡ o → is_of phase start o ≡ true → start ≡ module_start phase catalog number
    by None is e = cc
    by (Some m) is e =
        let volume : module_volume catalog number ≡ m.volume = ap (λ o. unwrap_or (option_map (λ (x : Module). x.volume) o) 0) is in
        let name : module_name catalog number ≡ m.name = ap (λ o. unwrap_or (option_map (λ (x : Module). x.name) o) (module_name (record catalog { modules = [] }) 0)) is in
        made_of phase start m e ∙ ap (λ v. record { phase = phase; volume = v; name = m.name }) (sym volume) ∙ ap (λ n. record { phase = phase; volume = module_volume catalog number; name = n }) (sym name)

self_is : (phase : Phase) (m : Module) → is_of phase (record { phase = phase; volume = m.volume; name = m.name }) (Some m) ≡ true
self_is phase m = ap (λ b. b && (m.volume == m.volume && same_guid m.name m.name)) (phase_self phase) ∙ ap (λ b. b && same_guid m.name m.name) (nat_self m.volume) ∙ nat_list_eq_equiv.refl m.name.0

get_some : {A : Type 0} (xs : List A) (n : ℕ) → n < length xs → (x : A) × (slice_get xs n ≡ Some x)
get_some [] n less = absurd (omega (arith, less))
get_some (x ∷ xs) zero less = (x, refl)
get_some (x ∷ xs) (suc n) less = get_some xs n (omega (arith, less))

pub is_start : (catalog : Catalog) (phase : Phase) (number : ℕ) (start : Start) → number < length catalog.modules → start ≡ module_start phase catalog number → is_start_of catalog phase number start ≡ true
is_start catalog phase number start below is =
    let found = get_some catalog.modules number below in
    let m = found.0 in
    let volume : module_volume catalog number ≡ m.volume = ap (λ o. unwrap_or (option_map (λ (x : Module). x.volume) o) 0) found.1 in
    let name : module_name catalog number ≡ m.name = ap (λ o. unwrap_or (option_map (λ (x : Module). x.name) o) (module_name (record catalog { modules = [] }) 0)) found.1 in
    let here : start ≡ record { phase = phase; volume = m.volume; name = m.name } = is ∙ ap (λ v. record { phase = phase; volume = v; name = module_name catalog number }) volume ∙ ap (λ n. record { phase = phase; volume = m.volume; name = n }) name in
    ap (λ s. is_of phase s (slice_get catalog.modules number)) here ∙ ap (is_of phase (record { phase = phase; volume = m.volume; name = m.name })) found.1 ∙ self_is phase m

pub starts_split : (xs ys : List AskedStart) → starts_of (xs ++ ys) ≡ starts_of xs ++ starts_of ys
starts_split [] ys = refl
starts_split (x ∷ xs) ys = ap (λ s. x.start ∷ s) (starts_split xs ys)

-- a start that is let is made as the order asks
pub let_goes_on : (catalog : Catalog) (order : StartOrder) (phase : Phase) (made : List Start) (index number : ℕ) → IsAlong order made → IsIndex order made index → lets_by catalog order phase index number ≡ true
    → IsAlong order (made ++ module_start phase catalog number ∷ [])
let_goes_on catalog order phase made index number along at passes = by (slice_get order.starts index) refl passes
  where
    next : Start
    next = module_start phase catalog number

    no_stop : (stop : Option ℕ) → is_none stop ≡ true → stop ≡ None
    no_stop None e = refl
    no_stop (Some n) e = cc

    by : (o : Option AskedStart) → slice_get order.starts index ≡ o → lets_asked catalog phase order.stop o number ≡ true → IsAlong order (made ++ next ∷ [])
    by None is e =
        let all = all_made order made along (asks_none order made index at is) in
        inr (no_stop order.stop e, (all.0 ++ next ∷ [], ap (λ x. x ++ next ∷ []) all.1 ∙ append_assoc (starts_of order.starts) all.0 (next ∷ [])))
    by (Some asked) is e =
        let next_is = asks_next order made index asked along at is in
        let start = start_is catalog phase number asked.start e in
        let all : starts_of order.starts ≡ made ++ (asked.start ∷ starts_of next_is.behind) = ap starts_of next_is.are ∙ starts_split next_is.before (asked ∷ next_is.behind) ∙ ap (λ x. x ++ (asked.start ∷ starts_of next_is.behind)) next_is.made_are in
        inl (starts_of next_is.behind, all ∙ ap (λ s. made ++ (s ∷ starts_of next_is.behind)) start ∙ sym (append_assoc made (next ∷ []) (starts_of next_is.behind)))

-- where the order asks for nothing and a start is not let, it stops
pub lets_stop : (catalog : Catalog) (order : StartOrder) (phase : Phase) (index number : ℕ) → lets_by catalog order phase index number ≡ false → slice_get order.starts index ≡ None → is_some order.stop ≡ true
lets_stop catalog order phase index number barred none = some order.stop (sym (ap (λ o. lets_asked catalog phase order.stop o number) none) ∙ barred)
  where
    some : (stop : Option ℕ) → is_none stop ≡ false → is_some stop ≡ true
    some None e = cc
    some (Some n) e = refl

-- where it asks for a start of a module, that is named
number_is : (catalog : Catalog) (start : Start) (named : Option ℕ) (other : ℕ) → HasNoTwins catalog → IsNamed catalog start.volume start.name other → IsNumberOf catalog start named → named ≡ Some other
number_is catalog start None other apart is none = absurd (none other is)
number_is catalog start (Some number) other apart is this = ap (λ n. Some n) (one_module catalog start.volume start.name number other apart this is)

in_phase : (catalog : Catalog) (start : Start) (named : Option ℕ) (b : Bool) → b ≡ true → NamesStart b catalog start named → IsNumberOf catalog start named
in_phase catalog start named true e names = names
in_phase catalog start named false e names = cc

pub named_is : (catalog : Catalog) (phase : Phase) (order : StartOrder) (index : ℕ) (named : Option ℕ) (other : ℕ) (asked : AskedStart) → HasNoTwins catalog → NamesAsked catalog phase order index named → other < length catalog.modules
    → slice_get order.starts index ≡ Some asked → asked.start ≡ module_start phase catalog other → named ≡ Some other
named_is catalog phase order index named other asked apart names below asks is =
    let here : NamesStart (same_phase asked.start.phase phase) catalog asked.start named = subst (λ o. NamesNext catalog phase o named) asks names in
    let same : same_phase asked.start.phase phase ≡ true = ap (λ (s : Start). same_phase s.phase phase) is ∙ phase_self phase in
    let this : IsNamed catalog asked.start.volume asked.start.name other = record { is_module = below; in_volume = sym (ap (λ (s : Start). s.volume) is); of_name = sym (ap (λ (s : Start). s.name) is) } in
    number_is catalog asked.start named other apart this (in_phase catalog asked.start named (same_phase asked.start.phase phase) same here)

-- nobody where it asks for none
pub none_asked : (catalog : Catalog) (phase : Phase) (order : StartOrder) (index : ℕ) (named : Option ℕ) → NamesAsked catalog phase order index named → slice_get order.starts index ≡ None → named ≡ None
none_asked catalog phase order index named names none = let here : NamesNext catalog phase None named = subst (λ o. NamesNext catalog phase o named) none names in here

-- one is named, or nobody
same_number : (catalog : Catalog) (start : Start) (a b : Option ℕ) → HasNoTwins catalog → IsNumberOf catalog start a → IsNumberOf catalog start b → a ≡ b
same_number catalog start None None apart f g = refl
same_number catalog start None (Some b) apart f g = absurd (f b g)
same_number catalog start (Some a) None apart f g = absurd (g a f)
same_number catalog start (Some a) (Some b) apart f g = ap (λ n. Some n) (one_module catalog start.volume start.name a b apart f g)

one_start_named : (catalog : Catalog) (start : Start) (a b : Option ℕ) (t : Bool) → HasNoTwins catalog → NamesStart t catalog start a → NamesStart t catalog start b → a ≡ b
one_start_named catalog start a b true apart f g = same_number catalog start a b apart f g
one_start_named catalog start a b false apart f g = f ∙ sym g

one_next : (catalog : Catalog) (phase : Phase) (asked : Option AskedStart) (a b : Option ℕ) → HasNoTwins catalog → NamesNext catalog phase asked a → NamesNext catalog phase asked b → a ≡ b
one_next catalog phase None a b apart f g = f ∙ sym g
one_next catalog phase (Some asked) a b apart f g = one_start_named catalog asked.start a b (same_phase asked.start.phase phase) apart f g

pub one_named : (catalog : Catalog) (phase : Phase) (order : StartOrder) (index : ℕ) (a b : Option ℕ) → HasNoTwins catalog → NamesAsked catalog phase order index a → NamesAsked catalog phase order index b → a ≡ b
one_named catalog phase order index a b apart f g = one_next catalog phase (slice_get order.starts index) a b apart f g

-- as many starts as the order's, made as it asks, are its own
pub exactly_made : (order : StartOrder) (made : List Start) → IsAlong order made → length made ≡ length order.starts → made ≡ starts_of order.starts
exactly_made order made (inl first) same =
    let all = starts_length order.starts in
    let sum = ap length first.1 ∙ length-append made first.0 in
    let none = nothing_left first.0 (length made) (length (starts_of order.starts)) (sym sum) (omega (arith, all, same)) in
    sym (first.1 ∙ ap (λ x. made ++ x) none ∙ append-nil made)
exactly_made order made (inr on) same =
    let all = starts_length order.starts in
    let sum = ap length on.1.1 ∙ length-append (starts_of order.starts) on.1.0 in
    let none = nothing_left on.1.0 (length (starts_of order.starts)) (length made) (sym sum) (omega (arith, all, same)) in
    on.1.1 ∙ ap (λ x. starts_of order.starts ++ x) none ∙ append-nil (starts_of order.starts)
