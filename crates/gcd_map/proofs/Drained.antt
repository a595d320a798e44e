-- What a vector gives that is taken item by item.
use Rattle.std.proofs.Common.{◌≡◌, List, [], ◌∷◌, length, Global, sym, ap, ◌∙◌, arith}
use Rattle.std.proofs.lemmas.List.{nil_from_length}
use Rattle.std.specs.Vec.Iter.{into_iter_items, into_iter_len, into_iter_steps}
use Rattle.std.specs.Iterator.{Drains, Yields}
use Rattle.gcd_map.specs.declared.range.GcdRange.{GcdRange}

yielded : (xs : List GcdRange) (s t : _) → into_iter_len s ≡ length (into_iter_items s) → Yields (into_iter_steps {X = GcdRange} {Z = Global}) s xs t → into_iter_len t ≡ 0 → xs ≡ into_iter_items s
yielded [] s t len same none = sym (nil_from_length (into_iter_items s) (sym len ∙ ap into_iter_len same ∙ none))
yielded (x ∷ xs) s t len ran none =
    let later = yielded xs ran.0 t (omega (arith, ran.1.1, len, ap length ran.1.0)) ran.2 none in
    ap (λ (l : List GcdRange). x ∷ l) later ∙ sym ran.1.0

pub drained : (xs : List GcdRange) (s : _) (all : List GcdRange) → Drains (into_iter_steps {X = GcdRange} {Z = Global}) s xs → into_iter_items s ≡ all → into_iter_len s ≡ length all → xs ≡ all
drained xs s all ran items len = yielded xs s ran.1.0 (len ∙ ap length (sym items)) ran.1.1 ran.1.2.0 ∙ items
