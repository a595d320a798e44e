use Rattle.std.proofs.Common.{ℕ, List, [], ◌∷◌, flat_map, sym, subst}
use Rattle.boot_io.specs.Sink.{Puts, AppendsPart}
use Rattle.boot_io.proofs.PutsLaws.{puts_err, puts_then, part_of_more}
use Rattle.boot_model.specs.{Listing.hob_lines, Listing.store_lines, Text.text_of}
use Rattle.store_model.specs.declared.store_handle.EntryList.TheVariants.{Ppis, Callbacks, Dispatches, Pendings}
use Rattle.boot_trace.specs.EntryLines.{list_text}
use Rattle.boot_trace.proofs.StoreTexts.{store_text}
use Rattle.boot_trace.proofs.store_lists.put_store_lists.Goals as goal

pub returns-clause-text : goal.returns-clause-text
returns-clause-text g c s stands needs =
    let T = g.S.Sink.text in
    let entries = flat_map (list_text s) (Ppis ∷ Callbacks ∷ Dispatches ∷ Pendings ∷ []) in
    let P : List ℕ → Type 0 = λ text. Puts c.put_hobs.result (T c.args.sink.now) (T c.put_hobs.new.sink) text in
    subst P (sym (store_text s)) (puts_then c.put_hobs.result (T c.args.sink.now) (T c.put_lists.new.sink) (T c.put_hobs.new.sink) entries (text_of (hob_lines s)) (c.in_ok-put_lists.ensures.text s stands tt) (c.put_hobs.ensures.text s stands tt))

pub returns-in_err-put_lists-clause-text : goal.returns-in_err-put_lists-clause-text
returns-in_err-put_lists-clause-text g c s stands needs =
    let T = g.S.Sink.text in
    let entries = flat_map (list_text s) (Ppis ∷ Callbacks ∷ Dispatches ∷ Pendings ∷ []) in
    let P : List ℕ → Type 0 = λ text. AppendsPart (T c.args.sink.now) (T c.put_lists.new.sink) text in
    puts_err c.from_residual.result (T c.args.sink.now) (T c.put_lists.new.sink) (text_of (store_lines s)) c.from_residual.ensures.0
    (subst P (sym (store_text s)) (part_of_more (T c.args.sink.now) (T c.put_lists.new.sink) entries (text_of (hob_lines s)) (c.in_err-put_lists.ensures.text s stands tt)))
