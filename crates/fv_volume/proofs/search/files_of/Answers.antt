use Rattle.std.proofs.Common.{length, ◌≡◌, ◌++◌, ◌∷◌, [], sym, ap, ◌∙◌, arith, length-append}
use Rattle.fv_volume.specs.{declared.file.FfsFile.FfsFile, Item.listed_of, Search.met_at}
use Rattle.fv_volume.proofs.Searches.{leads_more, files_more, step}
use Rattle.fv_volume.proofs.search.files_of.Goals as goal

pub aligned-at-requires : goal.aligned-at-requires
aligned-at-requires c =
    let met = step c.args.image.now c.args.frame.now.format c.len.result c.search.at c.in-Ok.item (sym c.ends_at.ensures ∙ c.search-test.true) (omega (arith, c.len.ensures, c.search.invariant.few)) (sym c.in-Ok.ensures) in
    omega (arith, met.lies.ends)

pub search-smaller : goal.search-smaller
search-smaller c =
    let met = step c.args.image.now c.args.frame.now.format c.len.result c.search.at c.in-Ok.item (sym c.ends_at.ensures ∙ c.search-test.true) (omega (arith, c.len.ensures, c.search.invariant.few)) (sym c.in-Ok.ensures) in
    omega (arith, met.lies.begins, met.lies.ends, c.aligned-at.ensures)

pub search-preserved : goal.search-preserved
search-preserved c =
    let image = c.args.image.now in
    let format = c.args.frame.now.format in
    let item = c.in-Ok.item in
    let on = sym c.ends_at.ensures ∙ c.search-test.true in
    let met = step image format c.len.result c.search.at item on (omega (arith, c.len.ensures, c.search.invariant.few)) (sym c.in-Ok.ensures) in
    let path = c.search.invariant.path in
    let listed : c.list.new.files ≡ c.search.files ++ listed_of item.kind = c.in_ok-list-in-Ok.ensures in
    record {
      path = (
        path.0 ++ item ∷ [],
        rw c.aligned-at.ensures (leads_more image format c.args.frame.now.start path.0 c.search.at item path.1 on met.sound),
        listed ∙ ap (λ xs. xs ++ listed_of item.kind) path.2 ∙ sym (files_more path.0 item),
      );
      few = rw listed (omega (arith, length-append c.search.files (listed_of item.kind), met.few, c.len.ensures));
      within = omega (arith, met.lies.ends, c.aligned-at.ensures);
    }

pub returns-in-Err-clause-refused : goal.returns-in-Err-clause-refused
returns-in-Err-clause-refused c other =
    let path = c.search.invariant.path in
    let counted = c.len.ensures ∙ ap (length {A = FfsFile}) path.2 in (
      path.0,
      path.1,
      rw path.2 at c.search.invariant.few,
      sym c.ends_at.ensures ∙ c.search-test.true,
      ap (λ n. met_at c.args.image.now c.args.frame.now.format n c.search.at) (sym counted) ∙ sym c.in-Err.ensures,
    )
