use Rattle.std.proofs.Common.{◌≡◌, ◌+◌, ◌++◌, length, arith, ap, ◌∙◌, sym, take, length-append, get_or, subst, List, Bor, ℕ, append_assoc, take_all}
use Rattle.hob_codec.specs.FieldView.{all_bytes}
use Rattle.hob_codec.proofs.FieldLemmas.{all_more, all_room, nothing}
use Rattle.hob_codec.proofs.field.put_fields.Goals as goal

pub put_field-requires : goal.put_field-requires
put_field-requires c =
    let room = all_room c.args.fields.now c.fields.field-index c.fields-test.true in
    omega (arith, c.fields.invariant.place, room)

pub fields-preserved : goal.fields-preserved
fields-preserved c =
    let fields = c.args.fields.now in let i = c.fields.field-index in
    let field = get_or fields i nothing in
    let more = all_more fields i c.fields-test.true in
    record {
      place = rw more (omega (arith, c.fields.invariant.place, length-append (all_bytes (take i fields)) field.now));
      written = c.put_field.ensures ∙ ap (λ l. l ++ field.now) c.fields.invariant.written ∙ append_assoc (take c.args.from c.args.out.now) (all_bytes (take i fields)) field.now ∙ ap (λ l. take c.args.from c.args.out.now ++ l) (sym more);
    }

pub returns : goal.returns
returns c =
    let all : take c.fields.field-index c.args.fields.now ≡ c.args.fields.now = take_all c.fields.field-index c.args.fields.now (omega arith) in
    let Written : List (Bor (List ℕ)) → Type 0 = λ fields. take (c.args.from + length (all_bytes fields)) c.fields.out ≡ take c.args.from c.args.out.now ++ all_bytes fields in
    subst Written all (rw c.fields.invariant.place at c.fields.invariant.written)
