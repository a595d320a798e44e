-- One line more of a text is read.
use Rattle.std.proofs.Common.{◌≡◌, ℕ, suc, ◌+◌, ◌-◌, ◌<◌, List, [], ◌∷◌, ◌++◌, length, take, drop, get_or, Option, Some, None, refl, sym, ap, ◌∙◌, arith, length-drop, length-take, option_map}
use Rattle.std.specs.List.{cons_option}
use Rattle.std.proofs.lemmas.List.{drop_more, take_more}
use Rattle.line_words.specs.Line.{lines}
use Rattle.boot_plan.specs.Said.{Said, said, said_from, entry_of}

-- the line at a place, by what is left from there on
pub record At (all : List (List ℕ)) (place : ℕ) (line : List ℕ) (rest : List (List ℕ)) : Type 0 where
  pub within : place < length all
  pub line_is : get_or all place [] ≡ line
  pub rest_is : drop (place + 1) all ≡ rest

pub at_is : (all : List (List ℕ)) (place : ℕ) (line : List ℕ) (rest : List (List ℕ)) → drop place all ≡ line ∷ rest → At all place line rest
at_is all place line rest left =
    let long : length all - place ≡ suc (length rest) = sym (length-drop place all) ∙ ap length left in
    let within : place < length all = omega arith in
    let more : get_or all place [] ∷ drop (place + 1) all ≡ line ∷ rest = sym (drop_more all place [] within) ∙ left in
    record { within = within; line_is = cc; rest_is = cc }

cons-append : (o : Option Said) (xs ys : List Said) → cons_option o xs ++ ys ≡ cons_option o (xs ++ ys)
cons-append None xs ys = refl
cons-append (Some x) xs ys = refl

said-push : (number : ℕ) (lines : List (List ℕ)) (line : List ℕ) → said_from number (lines ++ line ∷ []) ≡ said_from number lines ++ said_from (number + length lines) (line ∷ [])
said-push number [] line = let e : number + 0 ≡ number = omega arith in rw e refl
said-push number (first ∷ lines) line =
    let e : number + suc (length lines) ≡ number + 1 + length lines = omega arith in
    let o = option_map (λ entry. let s : Said = record { line = number; entry = entry } in s) (entry_of first) in
    rw (e, said-push (number + 1) lines line) (sym (cons-append o (said_from (number + 1) lines) (said_from (number + 1 + length lines) (line ∷ []))))

-- what the lines up to the next one say
pub said_more : (all : List (List ℕ)) (place : ℕ) (line : List ℕ) (rest : List (List ℕ)) → At all place line rest
    → said (take (place + 1) all) ≡ said (take place all) ++ said_from (place + 1) (line ∷ [])
said_more all place line rest at =
    let long : length (take place all) ≡ place = omega (arith, length-take place all, at.within) in
    let number : 1 + place ≡ place + 1 = omega arith in
    ap said (take_more all place [] at.within ∙ ap (λ l. take place all ++ l ∷ []) at.line_is) ∙ rw (said-push 1 (take place all) line, long, number) refl
