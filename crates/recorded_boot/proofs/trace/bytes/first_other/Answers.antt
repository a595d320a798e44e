use Rattle.std.proofs.Common.{length, drop, ◌∙◌, arith}
use Rattle.std.proofs.{lemmas.Bool.Decides.Decides-eqb, lemmas.Slice.Eq.starts_is}
use Rattle.recorded_boot.proofs.Places.{all_same, get_there, place_within, same_on}
use Rattle.recorded_boot.proofs.trace.bytes.first_other.Goals as goal

pub returns-then-starts_with : goal.returns-then-starts_with
returns-then-starts_with c =
    let bytes = c.args.bytes.now in
    let piece = c.args.piece.now in
    (drop (length piece) bytes, (starts_is Decides-eqb bytes piece c.starts_with.result c.starts_with.ensures.value).0 c.if-starts_with.true)

pub returns-then-not-has_byte : goal.returns-then-not-has_byte
returns-then-not-has_byte c = record {
  there = c.piece.invariant.there;
  within = c.piece-test.true;
  same = c.piece.invariant.same;
  other = λ e.
      let there = c.has_byte.ensures.1 (e ∙ get_there c.args.piece.now c.piece.place c.piece-test.true) in
      let not = c.if-not-has_byte.true in
      absurd (cc);
}

pub piece-preserved : goal.piece-preserved
piece-preserved c =
    let has = c.has_byte.ensures.0 c.if-not-has_byte.false in
    let within = place_within c.args.bytes.now c.piece.place _ has in
    record {
      there = omega (arith, within);
      same = same_on c.args.bytes.now c.args.piece.now c.piece.place _ has (get_there c.args.piece.now c.piece.place c.piece-test.true) c.piece.invariant.same;
    }

pub returns : goal.returns
returns c = all_same c.args.bytes.now c.args.piece.now c.piece.place (omega (arith, c.piece-test.false, c.piece.auto.place-end)) c.piece.invariant.same
