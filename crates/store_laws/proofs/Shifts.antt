-- A number is shifted once: what was shifted lies in RAM, and stays.
use Rattle.std.proofs.Common.{◌≡◌, ◌⊎◌, ℕ, ◌+◌, ◌-◌, ◌≤◌, ◌<◌, Bool, true, false, arith, ap, refl, sym, subst, ◌∙◌, Option, IfSome, nat_le, nat_lt, ◌&&◌, if◌then◌else◌}
use Rattle.std.proofs.lemmas.Bool.Decides.{nat_tests}
use Rattle.store_model.specs.{StoreState.Range, StateFacts.IsHeap, StateFacts.IsPlanned}
use Rattle.store_laws.specs.Moving.{ShiftsAreOnce}

-- the model's moved_number over plain numbers
abbrev pub moved : ℕ → ℕ → ℕ → ℕ → ℕ → ℕ → ℕ → ℕ
moved base len page_end pages to_base to_len n =
    if nat_le base n && nat_lt n (base + len) then n - base + to_base
    else if nat_le (page_end - pages) n && nat_lt n page_end then to_base + to_len - (page_end - n)
    else n

-- outside temporary RAM nothing is shifted
pub outside : (base len page_end pages to_base to_len n : ℕ) → base + len + pages ≡ page_end → (n < base) ⊎ (page_end ≤ n) → moved base len page_end pages to_base to_len n ≡ n
outside base len page_end pages to_base to_len n e h = grind (arith, nat_tests, e, h)

pub is_in_heap : (base len page_end pages to_base to_len n : ℕ) → base ≤ n → n < base + len → moved base len page_end pages to_base to_len n ≡ n - base + to_base
is_in_heap base len page_end pages to_base to_len n le less = grind (arith, nat_tests, le, less)

is_in_pages : (base len page_end pages to_base to_len n : ℕ) → base + len + pages ≡ page_end → base + len ≤ n → n < page_end → moved base len page_end pages to_base to_len n ≡ to_base + to_len - (page_end - n)
is_in_pages base len page_end pages to_base to_len n e le less = grind (arith, nat_tests, e, le, less)

apart_heap : (base len page_end pages to_base to_len n : ℕ) → base + len + pages ≡ page_end → len + pages ≤ to_len → (to_base + to_len ≤ base) ⊎ (page_end ≤ to_base) → base ≤ n → n < base + len → (n - base + to_base < base) ⊎ (page_end ≤ n - base + to_base)
apart_heap base len page_end pages to_base to_len n e fits (◌⊎◌.inl h) le less = ◌⊎◌.inl (omega (arith, e, fits, h, le, less))
apart_heap base len page_end pages to_base to_len n e fits (◌⊎◌.inr h) le less = ◌⊎◌.inr (omega (arith, e, fits, h, le, less))

apart_pages : (base len page_end pages to_base to_len n : ℕ) → base + len + pages ≡ page_end → len + pages ≤ to_len → (to_base + to_len ≤ base) ⊎ (page_end ≤ to_base) → base + len ≤ n → n < page_end → (to_base + to_len - (page_end - n) < base) ⊎ (page_end ≤ to_base + to_len - (page_end - n))
apart_pages base len page_end pages to_base to_len n e fits (◌⊎◌.inl h) le less = ◌⊎◌.inl (omega (arith, e, fits, h, le, less))
apart_pages base len page_end pages to_base to_len n e fits (◌⊎◌.inr h) le less = ◌⊎◌.inr (omega (arith, e, fits, h, le, less))

-- what was shifted lies outside temporary RAM, and is shifted no more
once_on : (base len page_end pages to_base to_len n : ℕ) (a b c : Bool) → nat_le base n ≡ a → nat_lt n (base + len) ≡ b → nat_lt n page_end ≡ c
    → base + len + pages ≡ page_end → len + pages ≤ to_len → (to_base + to_len ≤ base) ⊎ (page_end ≤ to_base)
    → moved base len page_end pages to_base to_len (moved base len page_end pages to_base to_len n) ≡ moved base len page_end pages to_base to_len n
once_on base len page_end pages to_base to_len n false b c ea eb ec e fits apart =
    let less : n < base = grind (arith, nat_tests, ea) in
    ap (moved base len page_end pages to_base to_len) (outside base len page_end pages to_base to_len n e (◌⊎◌.inl less))
once_on base len page_end pages to_base to_len n true true c ea eb ec e fits apart =
    let le : base ≤ n = grind (arith, nat_tests, ea) in
    let less : n < base + len = grind (arith, nat_tests, eb) in
    let here = is_in_heap base len page_end pages to_base to_len n le less in
    ap (moved base len page_end pages to_base to_len) here ∙ outside base len page_end pages to_base to_len (n - base + to_base) e (apart_heap base len page_end pages to_base to_len n e fits apart le less) ∙ sym here
once_on base len page_end pages to_base to_len n true false true ea eb ec e fits apart =
    let le : base + len ≤ n = grind (arith, nat_tests, eb) in
    let less : n < page_end = grind (arith, nat_tests, ec) in
    let here = is_in_pages base len page_end pages to_base to_len n e le less in
    ap (moved base len page_end pages to_base to_len) here ∙ outside base len page_end pages to_base to_len (to_base + to_len - (page_end - n)) e (apart_pages base len page_end pages to_base to_len n e fits apart le less) ∙ sym here
once_on base len page_end pages to_base to_len n true false false ea eb ec e fits apart =
    let le : page_end ≤ n = grind (arith, nat_tests, ec) in
    ap (moved base len page_end pages to_base to_len) (outside base len page_end pages to_base to_len n e (◌⊎◌.inr le))

pub once : (base len page_end pages to_base to_len n : ℕ) → base + len + pages ≡ page_end → len + pages ≤ to_len → (to_base + to_len ≤ base) ⊎ (page_end ≤ to_base)
    → moved base len page_end pages to_base to_len (moved base len page_end pages to_base to_len n) ≡ moved base len page_end pages to_base to_len n
once base len page_end pages to_base to_len n e fits apart = once_on base len page_end pages to_base to_len n (nat_le base n) (nat_lt n (base + len)) (nat_lt n page_end) refl refl refl e fits apart

-- RAM lies on one side of temporary RAM, and permanent memory in RAM
beside : (base page_end to_base to_len temp temp_len ram ram_len : ℕ) → (temp + temp_len ≤ ram) ⊎ (ram + ram_len ≤ temp) → base ≡ temp → page_end ≡ temp + temp_len → ram ≤ to_base → to_base + to_len ≤ ram + ram_len
    → (to_base + to_len ≤ base) ⊎ (page_end ≤ to_base)
beside base page_end to_base to_len temp temp_len ram ram_len (◌⊎◌.inl h) b e le fits = ◌⊎◌.inr (omega (arith, h, e, le))
beside base page_end to_base to_len temp temp_len ram ram_len (◌⊎◌.inr h) b e le fits = ◌⊎◌.inl (omega (arith, h, b, fits))

pub shifts_are_once : ShiftsAreOnce
shifts_are_once s to n h moved planned =
    let heap : IsHeap s false = subst (IsHeap s) moved h.heap in
    let plan : IsPlanned s.board to = subst (λ (x : Option Range). IfSome x (IsPlanned s.board)) planned h.planned in
    let start = heap.0 in
    let long = heap.1 in
    let end = heap.2 in
    once s.base s.len s.page_end s.board.pages to.base to.len n (omega (arith, start, long, end)) (omega (arith, long, plan.2))
    (beside s.base s.page_end to.base to.len s.board.temp.base s.board.temp.len s.board.ram.base s.board.ram.len h.board.memory start end plan.0 plan.1)
