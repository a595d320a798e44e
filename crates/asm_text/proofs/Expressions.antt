-- The line of an expression, by what stands at its front.
use Rattle.std.proofs.Common.{◌≡◌, ℕ, ◌&&◌, ◌||◌, Bool, true, false, eqb, List, [], ◌∷◌, ◌++◌, length, get_or, Option, Some, None, option_map, flat_map, refl, sym, ap, subst, ◌∙◌, arith, codes, ◌==◌, nat_lt, Result, Ok, Err, IfOk, append-nil, append_assoc, length-append}
use Rattle.pi_base.specs.{declared.memory.OutOfMemory.OutOfMemory, declared.guid.Guid.Guid, WordText.guid_text}
use Rattle.std.specs.List.{list_all}
use Rattle.std.proofs.{lemmas.Bool.and_parts, lemmas.Bool.false≢true, lemmas.Bool.Decides.nat_tests, lemmas.List.append_cancel_left}
use Rattle.depex_code.specs.declared.depex.Depex.{Depex}
use Rattle.depex_code.specs.declared.depex.Depex.TheVariants.{Before, After, Expr}
use Rattle.depex_code.specs.Tree.{DepexTree, True, False, Push, Not, And, Or}
use Rattle.asm_text.specs.ExpressionText.{bracketed, tree_text, expression_text, depex_text}
use Rattle.asm_text.specs.{Front.behind, Front.guid_word, ScriptText.line, BadLine.IsBadLine, ReadTree.IsTreeOf, ReadTree.IsExpressionOf}
use Rattle.line_words.specs.PrintedWords.{Lacks, Finds}
use Rattle.line_words.proofs.GuidWords.{is_guid_char, guid_chars}
use Rattle.line_words.proofs.LineFeeds.{both_lack, feed_there, same_line, same_rest}
use Rattle.asm_text.specs.ReadDepex.{IsDepexOf, IsDepexText}
use Rattle.asm_text.proofs.{Fronts.not_behind, LineFeeds.lined}
use Rattle.asm_text.proofs.Guids.{guid_at_front, guid_word_is, guid_word_there}

-- what the text of a tree begins with
abbrev is_tree_front : List ℕ → Bool
is_tree_front text =
    (is_guid_char (get_or text 0 0) && (is_guid_char (get_or text 2 0) && is_guid_char (get_or text 4 0)))
    || ((get_or text 0 0 == 116) || ((get_or text 0 0 == 110) || ((get_or text 0 0 == 40) || ((get_or text 0 0 == 102) && (get_or text 2 0 == 108)))))

guid_begins : (guid : Guid) → is_tree_front (guid_text guid) ≡ true
guid_begins guid =
    let whole : guid_text guid ++ [] ≡ guid_text guid = append-nil (guid_text guid) in
    let a = guid_at_front guid [] (guid_text guid) 0 (omega arith) whole in
    let b = guid_at_front guid [] (guid_text guid) 2 (omega arith) whole in
    let c = guid_at_front guid [] (guid_text guid) 4 (omega arith) whole in
    rw (a, b, c) refl

tree_begins : (node : DepexTree) → is_tree_front (tree_text node) ≡ true
tree_begins True = refl
tree_begins False = refl
tree_begins (Push guid) = guid_begins guid
tree_begins (Not node) = refl
tree_begins (And first second) = refl
tree_begins (Or first second) = refl

pub no_tree : (node : DepexTree) (text : List ℕ) → is_tree_front text ≡ false → text ≡ tree_text node → ⊥
no_tree node text other is = false≢true (sym other ∙ ap is_tree_front is ∙ tree_begins node)

-- texts with other first bytes
pub front_differs : (a b : List ℕ) → eqb (get_or a 0 0) (get_or b 0 0) ≡ false → a ≡ b → ⊥
front_differs a b other e = let alike : get_or a 0 0 ≡ get_or b 0 0 = ap (λ t. get_or t 0 0) e in grind (arith, nat_tests)

-- behind `before`
not_before : (line word : List ℕ) → line ≡ codes "before " ++ word → None ≡ guid_word word → (e : Depex) → IsExpressionOf line e → ⊥
not_before line word here none (Before guid) is =
    let same : word ≡ guid_text guid = append_cancel_left (codes "before ") word (guid_text guid) (sym here ∙ is.1) in
    let never : None ≡ Some guid = none ∙ ap guid_word same ∙ guid_word_there guid is.0 in
    cc
not_before line word here none (After guid) is = front_differs (codes "before " ++ word) (codes "after " ++ guid_text guid) refl (sym here ∙ is.1)
not_before line word here none (Expr true node) is = front_differs (codes "before " ++ word) (codes "sor " ++ tree_text node) refl (sym here ∙ is.1)
not_before line word here none (Expr false node) is = no_tree node (codes "before " ++ word) refl (sym here ∙ is.1)

pub found_before : (line word : List ℕ) (o : Option Guid) → line ≡ codes "before " ++ word → o ≡ guid_word word → Finds (IsExpressionOf line) (option_map Before o)
found_before line word (Some guid) here read = let is = guid_word_is word guid (sym read) in (is.0, here ∙ ap (λ w. codes "before " ++ w) is.1)
found_before line word None here read = not_before line word here read

-- behind `after`
not_after : (line word : List ℕ) → line ≡ codes "after " ++ word → None ≡ guid_word word → (e : Depex) → IsExpressionOf line e → ⊥
not_after line word here none (After guid) is =
    let same : word ≡ guid_text guid = append_cancel_left (codes "after ") word (guid_text guid) (sym here ∙ is.1) in
    let never : None ≡ Some guid = none ∙ ap guid_word same ∙ guid_word_there guid is.0 in
    cc
not_after line word here none (Before guid) is = front_differs (codes "after " ++ word) (codes "before " ++ guid_text guid) refl (sym here ∙ is.1)
not_after line word here none (Expr true node) is = front_differs (codes "after " ++ word) (codes "sor " ++ tree_text node) refl (sym here ∙ is.1)
not_after line word here none (Expr false node) is = no_tree node (codes "after " ++ word) refl (sym here ∙ is.1)

pub found_after : (line word : List ℕ) (o : Option Guid) → line ≡ codes "after " ++ word → o ≡ guid_word word → Finds (IsExpressionOf line) (option_map After o)
found_after line word (Some guid) here read = let is = guid_word_is word guid (sym read) in (is.0, here ∙ ap (λ w. codes "after " ++ w) is.1)
found_after line word None here read = not_after line word here read

-- behind `sor`
not_sor : (line text : List ℕ) → line ≡ codes "sor " ++ text → ((node : DepexTree) → IsTreeOf text node → ⊥) → (e : Depex) → IsExpressionOf line e → ⊥
not_sor line text here none (Before guid) is = front_differs (codes "sor " ++ text) (codes "before " ++ guid_text guid) refl (sym here ∙ is.1)
not_sor line text here none (After guid) is = front_differs (codes "sor " ++ text) (codes "after " ++ guid_text guid) refl (sym here ∙ is.1)
not_sor line text here none (Expr true node) is = none node (is.0, append_cancel_left (codes "sor ") text (tree_text node) (sym here ∙ is.1))
not_sor line text here none (Expr false node) is = no_tree node (codes "sor " ++ text) refl (sym here ∙ is.1)

pub found_sor : (line text : List ℕ) (o : Option DepexTree) → line ≡ codes "sor " ++ text → Finds (IsTreeOf text) o → Finds (IsExpressionOf line) (option_map (Expr true) o)
found_sor line text (Some node) here found = (found.0, here ∙ ap (λ t. codes "sor " ++ t) found.1)
found_sor line text None here none = not_sor line text here none

-- behind `sor`, as it is read
pub sor_ok : (line text : List ℕ) (r : Result (Option Depex) OutOfMemory) → line ≡ codes "sor " ++ text
    → IfOk r (λ found. (tree : Option DepexTree) × Finds (IsTreeOf text) tree × (found ≡ option_map (Expr true) tree)) → IfOk r (Finds (IsExpressionOf line))
sor_ok line text (Ok found) here x = subst (Finds (IsExpressionOf line)) (sym x.2) (found_sor line text x.0 here x.1)
sor_ok line text (Err e) here x = tt

-- a tree alone
not_tree : (line : List ℕ) → behind (codes "before ") line ≡ None → behind (codes "after ") line ≡ None → behind (codes "sor ") line ≡ None → ((node : DepexTree) → IsTreeOf line node → ⊥)
    → (e : Depex) → IsExpressionOf line e → ⊥
not_tree line a b c none (Before guid) is = not_behind (codes "before ") line (guid_text guid) a is.1
not_tree line a b c none (After guid) is = not_behind (codes "after ") line (guid_text guid) b is.1
not_tree line a b c none (Expr true node) is = not_behind (codes "sor ") line (tree_text node) c is.1
not_tree line a b c none (Expr false node) is = none node is

pub found_tree : (line : List ℕ) (o : Option DepexTree) → behind (codes "before ") line ≡ None → behind (codes "after ") line ≡ None → behind (codes "sor ") line ≡ None
    → Finds (IsTreeOf line) o → Finds (IsExpressionOf line) (option_map (Expr false) o)
found_tree line (Some node) a b c found = found
found_tree line None a b c none = not_tree line a b c none

-- an expression has no line feed
chars_lack : (text : List ℕ) → list_all is_guid_char text ≡ true → Lacks 10 text
chars_lack [] all = refl
chars_lack (byte ∷ text) all =
    let parts = and_parts (is_guid_char byte) (list_all is_guid_char text) all in
    let high : nat_lt 40 byte ≡ true = (and_parts (nat_lt 40 byte) (nat_lt byte 103) parts.0).0 in
    let other : eqb byte 10 ≡ false = grind (arith, nat_tests) in
    rw other (chars_lack text parts.1)

guid_lacks : (guid : Guid) → Lacks 10 (guid_text guid)
guid_lacks guid = chars_lack (guid_text guid) (guid_chars guid)

bracketed_lacks : (first between second : List ℕ) → Lacks 10 first → Lacks 10 between → Lacks 10 second → Lacks 10 (bracketed first between second)
bracketed_lacks first between second a b c =
    both_lack first (between ++ (second ++ codes ")")) a (both_lack between (second ++ codes ")") b (both_lack second (codes ")") c refl))

tree_lacks : (node : DepexTree) → Lacks 10 (tree_text node)
tree_lacks True = refl
tree_lacks False = refl
tree_lacks (Push guid) = guid_lacks guid
tree_lacks (Not node) = tree_lacks node
tree_lacks (And first second) = bracketed_lacks (tree_text first) (codes " and ") (tree_text second) (tree_lacks first) refl (tree_lacks second)
tree_lacks (Or first second) = bracketed_lacks (tree_text first) (codes " or ") (tree_text second) (tree_lacks first) refl (tree_lacks second)

expression_lacks : (e : Depex) → Lacks 10 (expression_text e)
expression_lacks (Before guid) = guid_lacks guid
expression_lacks (After guid) = guid_lacks guid
expression_lacks (Expr true node) = tree_lacks node
expression_lacks (Expr false node) = tree_lacks node

-- the text of one expression
pub depex_there : (text line rest : List ℕ) (e : Depex) → text ≡ line ++ 10 ∷ rest → rest ≡ [] → IsExpressionOf line e → IsDepexOf text e
depex_there text line rest e here none is = (is.0, here ∙ ap (λ r. line ++ 10 ∷ r) none ∙ ap (λ l. l ++ 10 ∷ []) is.1)

first_of : (text l rest more : List ℕ) (e : Depex) → Lacks 10 l → l ++ 10 ∷ rest ≡ text ++ more → text ++ more ≡ depex_text e → l ≡ expression_text e
first_of text l rest more e lacks here is = same_line l (expression_text e) rest [] lacks (expression_lacks e) (here ∙ is)

some_text : IsDepexText (depex_text (Expr false True))
some_text = (Expr false True, (tt, refl))

-- no line feed
pub bad_short : (text : List ℕ) → Lacks 10 text → IsBadLine IsDepexText text 1
bad_short text lacks = record {
  lines = [];
  rest = text;
  here = refl;
  are = tt;
  before = refl;
  begins = (depex_text (Expr false True), some_text);
  stops = λ next after lack is more there. feed_there next after (subst (Lacks 10) (is ∙ lined next after) lacks);
  none = λ there. feed_there (expression_text there.0) [] (subst (Lacks 10) there.1.1 lacks);
}

-- a first line of no expression
pub bad_first : (text l rest : List ℕ) → text ≡ l ++ 10 ∷ rest → Lacks 10 l → ((e : Depex) → IsExpressionOf l e → ⊥) → IsBadLine IsDepexText text 1
bad_first text l rest here lacks none = record {
  lines = [];
  rest = text;
  here = refl;
  are = tt;
  before = refl;
  begins = (depex_text (Expr false True), some_text);
  stops = λ next after lack is more there.
      let same : l ≡ next = same_line l next rest after lacks lack (sym here ∙ is ∙ lined next after) in
      let e = there.0 in
      let first : next ≡ expression_text e = same_line next (expression_text e) more [] lack (expression_lacks e) (sym (lined next more) ∙ there.1.1) in
      none e (there.1.0, same ∙ first);
  none = λ there.
      let e = there.0 in
      none e (there.1.0, same_line l (expression_text e) rest [] lacks (expression_lacks e) (sym here ∙ there.1.1));
}

one_line : (l rest : List ℕ) → flat_map line (l ∷ []) ++ rest ≡ l ++ 10 ∷ rest
one_line l rest = ap (λ t. t ++ rest) (append-nil (line l)) ∙ append_assoc l (10 ∷ []) rest

-- one line alone
pub whole_line : (text l rest : List ℕ) (e : Depex) → text ≡ l ++ 10 ∷ rest → IsExpressionOf l e → rest ≡ [] → IsDepexOf text e
whole_line text l rest e here is none = (is.0, here ∙ ap (λ r. l ++ 10 ∷ r) none ∙ ap (λ t. t ++ 10 ∷ []) is.1)

-- more than one line
pub bad_second : (text l rest : List ℕ) (e : Depex) → text ≡ l ++ 10 ∷ rest → Lacks 10 l → IsExpressionOf l e → (rest ≡ [] → ⊥) → IsBadLine IsDepexText text 2
bad_second text l rest e here lacks is some = record {
  lines = l ∷ [];
  rest = rest;
  before = refl;
  here = here ∙ sym (one_line l rest);
  are = (lacks, tt);
  begins = ([], (e, (is.0, append-nil (line l ++ []) ∙ append-nil (line l) ∙ ap line is.1)));
  stops = λ next after lack goes_on more there.
      let f = there.0 in
      let whole : l ++ 10 ∷ (line next ++ more) ≡ expression_text f ++ 10 ∷ [] = sym (one_line l (line next ++ more)) ∙ there.1.1 in
      let none : line next ++ more ≡ [] = same_rest l (expression_text f) (line next ++ more) [] lacks (expression_lacks f) whole in
      absurd (omega (arith, ap length none, length-append (line next) more, length-append next (10 ∷ [])));
  none = λ there.
      let f = there.0 in
      some (same_rest l (expression_text f) rest [] lacks (expression_lacks f) (sym here ∙ there.1.1));
}
