-- What a boot along an order comes to, from what is known of the free boots there.
use Rattle.std.proofs.Common.{◌≡◌, ◌≤◌, ℕ, true, List, [], ◌∷◌, ◌++◌, length, Option, Some, None, is_some, refl, sym, ap, ◌∙◌, subst, inl, inr, arith, ◌⊎◌, slice_get, append-nil, length-append}
use Rattle.std.specs.Io.KnownBytes.{Appends}
use Rattle.mod_catalog.specs.declared.catalogue.Catalog.{Catalog}
use Rattle.store_model.specs.{HandleState.HandleState, StoreState.Board, StoreState.StoreState}
use Rattle.boot_model.specs.{declared.line.Line.Line, declared.line.RunEnd.RunEnd, FreeRun.AreFreeLines, Text.text_of}
use Rattle.boot_model.specs.declared.line.Line.TheVariants as L
use Rattle.boot_trace.specs.Printing.{Texts}
use Rattle.recorded_boot.specs.{declared.order.line.AskedStart.AskedStart, declared.order.line.Start.Start}
use Rattle.recorded_boot.specs.{declared.order.lines.StartOrder.StartOrder, Starts.ComeFirst, Starts.starts}
use Rattle.recorded_boot.proofs.Fronts.{first_of_first, starts-append}
use Rattle.recorded_boot.specs.{declared.follow.against.Against.Against, declared.follow.followed.Followed.Followed}
use Rattle.recorded_boot.specs.declared.follow.followed.Followed.TheVariants.{Ended, Stopped, No}
use Rattle.recorded_boot.specs.{Along.IsAlong, Along.IsIndex, Against.StandsAgainst, ByOrder.starts_of, Answer.IsAmongFree}
use Rattle.recorded_boot.specs.Following.{IsBeforeStart, IsNo, StandsAt, StandsBehind}
use Rattle.recorded_boot.specs.InOrder.{BootsInOrder, LeadsTo, Place, last_lines}
use Rattle.recorded_boot.specs.{Leaving.ComesTo, Leaving.IsRefused, Own.GoesOnItself}
use Rattle.recorded_boot.proofs.Along.{all_made, asks_next, asks_none, stops_there}

-- Where a boot along an order stands: what was printed, and how many starts there were.
pub record Stand : Type 0 where
  pub board : Board
  pub catalog : Catalog
  pub fuel : ℕ
  pub order : StartOrder
  pub lines : List Line
  pub s : StoreState
  pub h : HandleState
  pub index : ℕ
  pub stands : StandsAt board catalog fuel lines s h
  pub along : IsAlong order (starts lines)
  pub at : IsIndex order (starts lines) index

-- what stands against the start of a line that is not made
stood : (p : Stand) (last printed : List Line) (line : ℕ) (against : Against) (r : IsRefused p.catalog p.order p.index p.s p.h line against) → printed ≡ p.lines ++ last → starts last ≡ []
    → StandsBehind p.board p.catalog p.fuel printed r.asked.start against
stood p last printed line against r are quiet =
    let next = asks_next p.order (starts p.lines) p.index r.asked p.along p.at r.asks in
    let same : starts printed ≡ starts p.lines = ap starts are ∙ starts-append p.lines last ∙ ap (λ x. starts p.lines ++ x) quiet ∙ append-nil (starts p.lines) in
    record {
      lines = p.lines;
      last = last;
      are = are;
      quiet = quiet;
      s = p.s;
      h = p.h;
      stands = p.stands;
      is_against = subst (λ made. StandsAgainst p.catalog made p.s p.h r.asked.start against) (next.front ∙ sym same) r.stood;
    }

-- no boot starts as the line asks
no_line : (p : Stand) (last printed : List Line) (line : ℕ) (against : Against) (t : Texts) (r : IsRefused p.catalog p.order p.index p.s p.h line against) → printed ≡ p.lines ++ last → starts last ≡ []
    → ((others : List Line) → AreFreeLines p.board p.catalog p.fuel others → ComeFirst (starts p.lines ++ r.asked.start ∷ []) (starts others) → ⊥)
    → AreFreeLines p.board p.catalog p.fuel printed ⊎ IsBeforeStart p.board p.catalog p.fuel printed → Appends t.old t.new (text_of printed)
    → IsNo p.board p.catalog p.fuel p.order line against t
no_line p last printed line against t r are quiet none far text =
    let next = asks_next p.order (starts p.lines) p.index r.asked p.along p.at r.asks in
    let same : starts printed ≡ starts p.lines = ap starts are ∙ starts-append p.lines last ∙ ap (λ x. starts p.lines ++ x) quiet ∙ append-nil (starts p.lines) in
    record {
      before = next.before;
      asked = r.asked;
      behind = next.behind;
      order_is = next.are;
      line_is = r.line_is;
      none = λ others free first. none others free (subst (λ made. ComeFirst (made ++ r.asked.start ∷ []) (starts others)) next.made_are first);
      printed = printed;
      far = far;
      made = same ∙ sym next.made_are;
      text = text;
      stood = stood p last printed line against r are quiet;
    }

-- it was left before a start
pub barred_comes : (p : Stand) (t : Texts) → IsBeforeStart p.board p.catalog p.fuel p.lines
    → ((asked : AskedStart) → slice_get p.order.starts p.index ≡ Some asked → (others : List Line) → AreFreeLines p.board p.catalog p.fuel others → ComeFirst (starts p.lines ++ asked.start ∷ []) (starts others) → ⊥)
    → (slice_get p.order.starts p.index ≡ None → is_some p.order.stop ≡ true) → Appends t.old t.new (text_of p.lines)
    → (followed : Followed) → ComesTo p.catalog p.order p.index p.s p.h None followed → IsAmongFree p.board p.catalog p.fuel p.order t followed
barred_comes p t before none stops text (Ended end) c = let never : None ≡ Some end = c.0 in cc
barred_comes p t before none stops text Stopped c =
    let some = stops c.1 in
    record {
      printed = p.lines;
      before = before;
      made = stops_there p.order (starts p.lines) p.along (asks_none p.order (starts p.lines) p.index p.at c.1) some;
      stops = some;
      text = text;
    }
barred_comes p t before none stops text (No line against) r =
    no_line p [] p.lines line against t r (sym (append-nil p.lines)) refl (none r.asked r.asks) (inr before) text

-- starts and one more do not come first of the same starts
no_more : (made : List Start) (s : Start) (all : List Start) → all ≡ made → ComeFirst (made ++ s ∷ []) all → ⊥
no_more made s all is first =
    let sum = ap length first.1 ∙ length-append (made ++ s ∷ []) first.0 in
    let one = length-append made (s ∷ []) in
    let same = ap length is in
    omega (arith, sum, one, same)

one_end : (a b : RunEnd) → Some a ≡ Some b → a ≡ b
one_end a b e = cc

-- it has come to its end, with its last lines
pub ended_comes : (p : Stand) (t : Texts) (last : List Line) (end : RunEnd) → starts last ≡ [] → AreFreeLines p.board p.catalog p.fuel (p.lines ++ last)
    → ((others : List Line) → AreFreeLines p.board p.catalog p.fuel others → ComeFirst (starts p.lines) (starts others) → others ≡ p.lines ++ last)
    → (before : List Line) × (p.lines ++ last ≡ before ++ L.Result end ∷ [])
    → (length p.order.starts ≤ length (starts p.lines) → GoesOnItself p.board p.catalog p.fuel (starts_of p.order.starts) (p.lines ++ last)) → Appends t.old t.new (text_of (p.lines ++ last))
    → (followed : Followed) → ComesTo p.catalog p.order p.index p.s p.h (Some end) followed → IsAmongFree p.board p.catalog p.fuel p.order t followed
ended_comes p t last end quiet boots only result itself text (Ended so) c =
    let all = p.lines ++ last in
    let same : starts all ≡ starts p.lines = starts-append p.lines last ∙ ap (λ x. starts p.lines ++ x) quiet ∙ append-nil (starts p.lines) in
    let few = asks_none p.order (starts p.lines) p.index p.at c.1 in
    record {
      lines = all;
      boots = boots;
      result = (result.0, result.1 ∙ ap (λ e. result.0 ++ L.Result e ∷ []) (one_end end so c.0));
      made = subst (ComeFirst (starts_of p.order.starts)) (sym same) (all_made p.order (starts p.lines) p.along few);
      no_more = λ some. same ∙ stops_there p.order (starts p.lines) p.along few some;
      itself = itself few;
      text = text;
    }
ended_comes p t last end quiet boots only result itself text Stopped c = let never : Some end ≡ None = c.0 in cc
ended_comes p t last end quiet boots only result itself text (No line against) r =
    let all = p.lines ++ last in
    let same : starts all ≡ starts p.lines = starts-append p.lines last ∙ ap (λ x. starts p.lines ++ x) quiet ∙ append-nil (starts p.lines) in
    no_line p last all line against t r refl quiet
    (λ others free first.
    let is = only others free (first_of_first (starts p.lines) (starts p.lines ++ r.asked.start ∷ []) (starts others) (r.asked.start ∷ [], refl) first) in
    no_more (starts p.lines) r.asked.start (starts others) (ap starts is ∙ same) first)
    (inl boots) text

-- the boot in the order was put, with its last lines where it has ended
abbrev pub place_of : Stand → Option RunEnd → Place
place_of p end = record { lines = p.lines; store = p.s; handles = p.h; starts = p.index; «end» = end }

pub in_order : (p : Stand) (t : Texts) (end : Option RunEnd) (followed : Followed) → LeadsTo p.board p.catalog p.fuel p.order (place_of p end) → Appends t.old t.new (text_of (p.lines ++ last_lines p.s p.h end))
    → ComesTo p.catalog p.order p.index p.s p.h end followed → BootsInOrder p.board p.catalog p.fuel p.order t followed
in_order p t end followed leads text c = record { place = place_of p end; leads = leads; text = text; comes = c }
