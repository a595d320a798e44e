use Rattle.std.proofs.Common.{◌+◌, drop, sym, ap, subst, ◌∙◌, ◌++◌, ◌∷◌}
use Rattle.recorded_boot.specs.Lines.{Lacks}
use Rattle.recorded_boot.proofs.Places.{cut_at}
use Rattle.recorded_boot.proofs.trace.bytes.first_line.Goals as goal

pub returns-then-byte-eq-LINE_FEED : goal.returns-then-byte-eq-LINE_FEED
returns-then-byte-eq-LINE_FEED c =
    let bytes = c.args.bytes.now in
    let n = c.search.place in
    let front = c.before-then-byte-eq-LINE_FEED.ensures in
    record {
      lacks = subst Lacks (sym front) c.search.invariant;
      rest = drop (n + 1) bytes;
      is = cut_at bytes n 10 c.search-test.true c.if-byte-eq-LINE_FEED.true ∙ ap (λ t. t ++ 10 ∷ drop (n + 1) bytes) (sym front);
    }
