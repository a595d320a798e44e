-- Lines spell one order, or have one first bad line.
use Rattle.std.proofs.Common.{◌≡◌, ℕ, ◌+◌, ◌≤◌, Bool, true, false, not, cond, List, [], ◌∷◌, ◌++◌, length, map, Option, Some, None, is_some, refl, sym, ap, ◌∙◌, subst, inl, inr, arith, ◌⊎◌, ◌==◌, length-append}
use Rattle.std.specs.{List.enumerate_from, List.slice_split, Str.Lines.lines_of_parts}
use Rattle.std.proofs.{lemmas.List.length-map, lemmas.List.map-append, lemmas.List.FromFn.length-enumerate_from}
use Rattle.std.proofs.{lemmas.List.Splits.length-slice_split, lemmas.List.Sums.count_by-le-length, lemmas.List.Sums.length-filter}
use Rattle.line_words.specs.Line.{lines, is_passed_over}
use Rattle.recorded_boot.specs.{declared.order.line.Asked.Asked, declared.order.line.AskedStart.AskedStart}
use Rattle.recorded_boot.specs.declared.order.line.Asked.TheVariants as A
use Rattle.recorded_boot.specs.{declared.order.lines.StartOrder.StartOrder, LineText.asked_of}
use Rattle.recorded_boot.specs.OrderText.{AreLinesOf, IsFirstBad, IsOrder, all_asked, last_asked, numbered, spelled}

-- what orders ask for
abbrev things : List AskedStart → Option ℕ → List (Option Asked)
things starts stop = map (λ asked. Some asked) (map (λ start. A.Start start) starts ++ last_asked stop)

tail_is : {A : Type 0} (a b : A) (xs ys : List A) → a ∷ xs ≡ b ∷ ys → xs ≡ ys
tail_is a b xs ys e = cc

one_start : (a b : AskedStart) (xs ys : List (Option Asked)) → Some (A.Start a) ∷ xs ≡ Some (A.Start b) ∷ ys → a ≡ b
one_start a b xs ys e = cc

record Same (xs ys : List AskedStart) (s t : Option ℕ) : Type 0 where
  starts : xs ≡ ys
  stops : s ≡ t

one_stop : (s t : Option ℕ) → things [] s ≡ things [] t → s ≡ t
one_stop None None e = refl
one_stop None (Some n) e = cc
one_stop (Some m) None e = cc
one_stop (Some m) (Some n) e = let same : m ≡ n = cc in ap (λ x. Some x) same

no_start : (s : Option ℕ) (y : AskedStart) (ys : List AskedStart) (t : Option ℕ) → things [] s ≡ things (y ∷ ys) t → ⊥
no_start None y ys t e = cc
no_start (Some m) y ys t e = cc

same_things : (xs ys : List AskedStart) (s t : Option ℕ) → things xs s ≡ things ys t → Same xs ys s t
same_things [] [] s t e = record { starts = refl; stops = one_stop s t e }
same_things [] (y ∷ ys) s t e = absurd (no_start s y ys t e)
same_things (x ∷ xs) [] s t e = absurd (no_start t x xs s (sym e))
same_things (x ∷ xs) (y ∷ ys) s t e =
    let rest = same_things xs ys s t (tail_is (Some (A.Start x)) (Some (A.Start y)) (things xs s) (things ys t) e) in
    let first = one_start x y (things xs s) (things ys t) e in
    record { starts = ap (λ z. z ∷ xs) first ∙ ap (λ zs. y ∷ zs) rest.starts; stops = rest.stops }

pub one_order : (text : List ℕ) (a b : StartOrder) → IsOrder text a → IsOrder text b → a ≡ b
one_order text a b p q =
    let same = same_things a.starts b.starts a.stop b.stop (sym p ∙ q) in
    let with_starts : List AskedStart → StartOrder = λ x. record { starts = x; stop = a.stop } in
    let with_stop : Option ℕ → StartOrder = λ x. record { starts = b.starts; stop = x } in
    ap with_starts same.starts ∙ ap with_stop same.stops

-- nothing that is asked for is nothing
no_none : (all before : List Asked) (rest : List (Option Asked)) → map (λ asked. Some asked) before ++ None ∷ rest ≡ map (λ asked. Some asked) all → ⊥
no_none [] [] rest e = cc
no_none (a ∷ all) [] rest e = cc
no_none [] (b ∷ before) rest e = cc
no_none (a ∷ all) (b ∷ before) rest e = no_none all before rest (tail_is (Some b) (Some a) (map (λ asked. Some asked) before ++ None ∷ rest) (map (λ asked. Some asked) all) e)

-- nothing follows a stop
stop_is_last : (xs ys : List AskedStart) (m : ℕ) (t : Option ℕ) (e : Option Asked) (rest : List (Option Asked)) → things xs (Some m) ++ e ∷ rest ≡ things ys t → ⊥
stop_is_last [] [] m None e rest is = cc
stop_is_last [] [] m (Some n) e rest is = let gone : e ∷ rest ≡ [] = tail_is (Some (A.Stop m)) (Some (A.Stop n)) (e ∷ rest) [] is in cc
stop_is_last [] (y ∷ ys) m t e rest is = cc
stop_is_last (x ∷ xs) [] m None e rest is = cc
stop_is_last (x ∷ xs) [] m (Some n) e rest is = cc
stop_is_last (x ∷ xs) (y ∷ ys) m t e rest is = stop_is_last xs ys m t e rest (tail_is (Some (A.Start x)) (Some (A.Start y)) (things xs (Some m) ++ e ∷ rest) (things ys t) is)

behind_stop : (starts : List AskedStart) (stop : Option ℕ) (order : StartOrder) (e : Option Asked) (rest : List (Option Asked)) → is_some stop ≡ true → things starts stop ++ e ∷ rest ≡ things order.starts order.stop → ⊥
behind_stop starts None order e rest some is = cc
behind_stop starts (Some m) order e rest some is = stop_is_last starts order.starts m order.stop e rest is

-- lines with a bad one among them spell no order
none_bad : (before behind : List (ℕ × List ℕ)) (number : ℕ) (line : List ℕ) (some all : StartOrder) → AreLinesOf some before → (asked_of number line ≡ None) ⊎ (is_some some.stop ≡ true) → AreLinesOf all (before ++ (number, line) ∷ behind) → ⊥
none_bad before behind number line some all spell bad is = by bad
  where
    split : spelled (before ++ (number, line) ∷ behind) ≡ things some.starts some.stop ++ asked_of number line ∷ spelled behind
    split = map-append (λ line. asked_of line.0 line.1) before ((number, line) ∷ behind) ∙ ap (λ xs. xs ++ asked_of number line ∷ spelled behind) spell

    by : (asked_of number line ≡ None) ⊎ (is_some some.stop ≡ true) → ⊥
    by (inl none) =
        let here : things some.starts some.stop ++ None ∷ spelled behind ≡ things all.starts all.stop = ap (λ o. things some.starts some.stop ++ o ∷ spelled behind) (sym none) ∙ sym split ∙ is in
        no_none (all_asked all) (all_asked some) (spelled behind) here
    by (inr stops) = behind_stop some.starts some.stop all (asked_of number line) (spelled behind) stops (sym split ∙ is)

pub apart : (text : List ℕ) (order : StartOrder) (line : ℕ) → IsOrder text order → IsFirstBad text line → ⊥
apart text order line is bad = none_bad bad.before bad.behind line bad.line bad.order order bad.spell bad.bad (subst (AreLinesOf order) bad.are is)

-- two places of a list: they are one, or either comes first
data Cut {A : Type 0} (xs ys : List A) (x y : A) : Type 0 where
  Here : x ≡ y → Cut xs ys x y
  First : (rest : List A) → ys ≡ xs ++ x ∷ rest → Cut xs ys x y
  Second : (rest : List A) → xs ≡ ys ++ y ∷ rest → Cut xs ys x y

further : {A : Type 0} (z w x y : A) (xs ys : List A) → z ≡ w → Cut xs ys x y → Cut (z ∷ xs) (w ∷ ys) x y
further z w x y xs ys e (Here same) = Here same
further z w x y xs ys e (First rest is) = First rest (ap (λ v. v ∷ ys) (sym e) ∙ ap (λ vs. z ∷ vs) is)
further z w x y xs ys e (Second rest is) = Second rest (ap (λ v. v ∷ xs) e ∙ ap (λ vs. w ∷ vs) is)

cut : {A : Type 0} (xs ys : List A) (x y : A) (r q : List A) → xs ++ x ∷ r ≡ ys ++ y ∷ q → Cut xs ys x y
cut [] [] x y r q e = let same : x ≡ y = cc in Here same
cut [] (w ∷ ys) x y r q e = let same : w ≡ x = cc in First ys (ap (λ v. v ∷ ys) same)
cut (z ∷ xs) [] x y r q e = let same : z ≡ y = cc in Second xs (ap (λ v. v ∷ xs) same)
cut (z ∷ xs) (w ∷ ys) x y r q e =
    let first : z ≡ w = cc in
    let rest : xs ++ x ∷ r ≡ ys ++ y ∷ q = cc in
    further z w x y xs ys first (cut xs ys x y r q rest)

pub one_bad : (text : List ℕ) (m n : ℕ) → IsFirstBad text m → IsFirstBad text n → m ≡ n
one_bad text m n p q = by (cut p.before q.before (m, p.line) (n, q.line) p.behind q.behind (sym p.are ∙ q.are))
  where
    by : Cut p.before q.before (m, p.line) (n, q.line) → m ≡ n
    by (Here same) = ap (λ (x : ℕ × List ℕ). x.0) same
    by (First rest is) = absurd (none_bad p.before rest m p.line p.order q.order p.spell p.bad (subst (AreLinesOf q.order) is q.spell))
    by (Second rest is) = absurd (none_bad q.before rest n q.line q.order p.order q.spell q.bad (subst (AreLinesOf p.order) is p.spell))

-- an order has no more starts than lines, and a text no more lines than bytes, and one
parts_short : (parts : List (List ℕ)) → length (lines_of_parts parts) ≤ length parts
parts_short [] = omega arith
parts_short (x ∷ []) = by (length x == 0)
  where
    by : (b : Bool) → length (cond b [] (x ∷ [])) ≤ 1
    by true = omega arith
    by false = omega arith
parts_short (x ∷ y ∷ more) = let rest = parts_short (y ∷ more) in omega (arith, rest)

pub short : (text : List ℕ) (order : StartOrder) → IsOrder text order → length order.starts ≤ length text + 1
short text order is =
    let asked : List (Option Asked) = map (λ asked. Some asked) (all_asked order) in
    let all = length-map (all_asked order) (λ (asked : Asked). Some asked) in
    let both = length-append (map (λ (start : AskedStart). A.Start start) order.starts) (last_asked order.stop) in
    let own = length-map order.starts (λ (start : AskedStart). A.Start start) in
    let same = ap length is in
    let told = length-map (numbered text) (λ (line : ℕ × List ℕ). asked_of line.0 line.1) in
    let passed = length-filter (λ (line : ℕ × List ℕ). not (is_passed_over line.1)) (enumerate_from 1 (lines text)) in
    let few = count_by-le-length (λ (line : ℕ × List ℕ). not (is_passed_over line.1)) (enumerate_from 1 (lines text)) in
    let each = length-enumerate_from 1 (lines text) in
    let parts = parts_short (slice_split (λ b. b == 10) text) in
    let cuts = length-slice_split (λ b. b == 10) text in
    let bytes = count_by-le-length (λ (b : ℕ). b == 10) text in
    omega (arith, all, both, own, same, told, passed, few, each, parts, cuts, bytes)
