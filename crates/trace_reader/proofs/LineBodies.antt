-- A readable line has no line feed before its end.
use Rattle.std.proofs.Common.{◌≡◌, ◌++◌, ℕ, List, [], ◌∷◌, flat_map, refl, sym, ap, ◌∙◌, true, false, eqb, ltb, arith, append_assoc, nat_le}
use Rattle.std.specs.{Prelude.⊤, List.list_all, List.AllByRecursion}
use Rattle.std.proofs.{lemmas.Bool.and_parts, lemmas.Bool.Decides.nat_tests}
use Rattle.hex.specs.Hex.{IsBytes}
use Rattle.boot_io.specs.Line.{spaced}
use Rattle.boot_model.specs.declared.line.Line.{Line}
use Rattle.boot_model.specs.declared.line.Line.TheVariants as L
use Rattle.boot_model.specs.declared.line.Extra.TheVariants as E
use Rattle.boot_model.specs.Text.{keyword, words, line_text, bytes_text}
use Rattle.line_words.specs.PrintedWords.{IsPlain, Lacks}
use Rattle.trace_reader.specs.Readable.{IsReadable, IsLineOf, is_printable}
use Rattle.trace_reader.specs.Trace.{BeginsWithLine}
use Rattle.line_words.proofs.LineFeeds.{both_lack, same_line, feed_there}
use Rattle.line_words.proofs.PlainWords.{decimal_plain, hexadecimal_plain, guid_plain, encoded_plain}
use Rattle.trace_reader.proofs.PlainWords.{decimal_16_plain, decimal_32_plain, by_plain, rank_plain, name_plain, kind_plain, expression_plain, shown_plain}
use Rattle.boot_trace.proofs.FixedWords.{licence_text_plain, word_text_plain, reason_text_plain, end_text_plain, plan_cause_text_plain, image_cause_text_plain, call_text_plain}

-- a plain word has no line feed
plain_lacks : (word : List ℕ) → IsPlain word → Lacks 10 word
plain_lacks [] plain = refl
plain_lacks (byte ∷ word) plain =
    let parts = and_parts (ltb 32 byte) (list_all (λ b. ltb 32 b) word) plain in
    let high : ltb 32 byte ≡ true = parts.0 in
    let other : eqb byte 10 ≡ false = grind (arith, nat_tests) in
    rw other (plain_lacks word parts.1)

pub logged_lacks : (text : List ℕ) → list_all is_printable text ≡ true → Lacks 10 text
logged_lacks [] printable = refl
logged_lacks (byte ∷ text) printable =
    let parts = and_parts (is_printable byte) (list_all is_printable text) printable in
    let high : nat_le 32 byte ≡ true = (and_parts (nat_le 32 byte) (nat_le byte 126) parts.0).0 in
    let other : eqb byte 10 ≡ false = grind (arith, nat_tests) in
    rw other (logged_lacks text parts.1)

spaced_lack : (words : List (List ℕ)) → AllByRecursion IsPlain words → Lacks 10 (flat_map spaced words)
spaced_lack [] plain = refl
spaced_lack (word ∷ words) plain = both_lack word (flat_map spaced words) (plain_lacks word plain.0) (spaced_lack words plain.1)

words_lack : (keyword : List ℕ) (words : List (List ℕ)) → Lacks 10 keyword → AllByRecursion IsPlain words → Lacks 10 (keyword ++ flat_map spaced words)
words_lack keyword words front plain = both_lack keyword (flat_map spaced words) front (spaced_lack words plain)

word_lacks : (keyword word : List ℕ) → Lacks 10 keyword → Lacks 10 word → Lacks 10 (keyword ++ flat_map spaced (word ∷ []))
word_lacks keyword word front back = both_lack keyword (flat_map spaced (word ∷ [])) front (both_lack word [] back refl)

pub bytes_plain : (bytes : List ℕ) → IsBytes bytes → IsPlain (bytes_text bytes)
bytes_plain [] fits = refl
bytes_plain (byte ∷ bytes) fits = encoded_plain (byte ∷ bytes) fits

-- the words of a line are plain, but where it shows a text or a file's name
abbrev pub HasPlainWords : Line → Type 0
HasPlainWords (L.Log text) = ⊤
HasPlainWords (L.RefusedFile name) = ⊤
HasPlainWords (L.RefusedLong name) = ⊤
HasPlainWords line = AllByRecursion IsPlain (words line)

pub plain_words : (line : Line) → IsReadable line → HasPlainWords line
plain_words (L.Report volume) is = (decimal_32_plain volume is, tt)
plain_words (L.DxeVolume volume) is = (decimal_32_plain volume is, tt)
plain_words (L.PeiStart volume name licence) is = (decimal_32_plain volume is.0, (guid_plain name, (licence_text_plain licence, tt)))
plain_words (L.DxeStart volume name licence) is = (decimal_32_plain volume is.0, (guid_plain name, (licence_text_plain licence, tt)))
plain_words (L.NotifyCallback volume name fired) is = (decimal_32_plain volume is.0, (guid_plain name, (guid_plain fired, tt)))
plain_words (L.NotifyDispatch volume name fired) is = (decimal_32_plain volume is.0, (guid_plain name, (guid_plain fired, tt)))
plain_words (L.NotifyProtocol volume name fired) is = (decimal_32_plain volume is.0, (guid_plain name, (guid_plain fired, tt)))
plain_words (L.End status) is = (word_text_plain status, tt)
plain_words L.PeiStop is = tt
plain_words L.DxeStop is = tt
plain_words (L.Waiting volume name reason) is = (decimal_32_plain volume is.0, (guid_plain name, (reason_text_plain reason, tt)))
plain_words (L.Handoff address) is = (hexadecimal_plain address is, tt)
plain_words (L.Result outcome) is = (end_text_plain outcome, tt)
plain_words (L.Migrate from to) is = (hexadecimal_plain from is.0, (hexadecimal_plain to is.1, tt))
plain_words (L.CoreInstall status) is = (word_text_plain status, tt)
plain_words (L.Ppis count) is = (decimal_32_plain count is, tt)
plain_words (L.Callbacks count) is = (decimal_32_plain count is, tt)
plain_words (L.Dispatches count) is = (decimal_32_plain count is, tt)
plain_words (L.Pendings count) is = (decimal_32_plain count is, tt)
plain_words (L.Hobs count) is = (decimal_32_plain count is, tt)
plain_words (L.Handles count) is = (decimal_32_plain count is, tt)
plain_words (L.Ppi by guid value) is = (by_plain by is.0, (guid_plain guid, (hexadecimal_plain value is.2, tt)))
plain_words (L.Callback guid by block) is = (guid_plain guid, (decimal_32_plain by is.1, (decimal_32_plain block is.2, tt)))
plain_words (L.Dispatch guid by block) is = (guid_plain guid, (decimal_32_plain by is.1, (decimal_32_plain block is.2, tt)))
plain_words (L.Pending guid by block) is = (guid_plain guid, (decimal_32_plain by is.1, (decimal_32_plain block is.2, tt)))
plain_words (L.Handle handle guid value) is = (decimal_32_plain handle is.0, (guid_plain guid, (hexadecimal_plain value is.2, tt)))
plain_words (L.Volume volume base len name) is = (decimal_32_plain volume is.0, (hexadecimal_plain base is.1, (decimal_plain len is.2, (name_plain name is.3, tt))))
plain_words (L.Module by volume name kind pei_rank dxe_rank pei dxe) is = (decimal_32_plain by is.0, (decimal_32_plain volume is.1, (guid_plain name, (kind_plain kind is.3, (rank_plain pei_rank is.4, (rank_plain dxe_rank is.5, (expression_plain pei is.6, (expression_plain dxe is.7, tt))))))))
plain_words L.RefusedUsage is = tt
plain_words (L.RefusedPlan line cause) is = (decimal_32_plain line is, (plan_cause_text_plain cause, tt))
plain_words (L.RefusedImage volume at cause) is = (decimal_32_plain volume is.0, (decimal_plain at is.1, (image_cause_text_plain cause, tt)))
plain_words (L.Call name status E.Nothing) is = (call_text_plain name, (word_text_plain status, tt))
plain_words (L.Call name status (E.Number n)) is = (call_text_plain name, (word_text_plain status, (hexadecimal_plain n is.2, tt)))
plain_words (L.Call name status (E.Bytes bytes)) is = (call_text_plain name, (word_text_plain status, (shown_plain bytes.items is.2, tt)))
plain_words (L.Hob kind body) is = (decimal_16_plain kind is.0, (bytes_plain body is.1, tt))
plain_words (L.Log text) is = tt
plain_words (L.RefusedFile name) is = tt
plain_words (L.RefusedLong name) is = tt

-- a keyword has no line feed
keyword_lacks : (line : Line) → Lacks 10 (keyword line)
unfolding keyword
keyword_lacks (L.Report volume) = refl
keyword_lacks _ = refl

pub body_lacks : (line : Line) → IsReadable line → Lacks 10 (keyword line ++ flat_map spaced (words line))
body_lacks (L.Log text) is = word_lacks (keyword (L.Log text)) text.items (keyword_lacks (L.Log text)) (logged_lacks text.items is.2)
body_lacks (L.RefusedFile name) is = word_lacks (keyword (L.RefusedFile name)) name (keyword_lacks (L.RefusedFile name)) is.0
body_lacks (L.RefusedLong name) is = word_lacks (keyword (L.RefusedLong name)) name (keyword_lacks (L.RefusedLong name)) is.0
body_lacks line is = words_lack (keyword line) (words line) (keyword_lacks line) (plain_words line is)

-- a text that goes on with a line is its body, a line feed and the rest
pub line_then : (line : Line) (rest : List ℕ) → line_text line ++ rest ≡ (keyword line ++ flat_map spaced (words line)) ++ 10 ∷ rest
line_then line rest = append_assoc (keyword line ++ flat_map spaced (words line)) (10 ∷ []) rest

pub no_line_there : (text body after : List ℕ) → text ≡ body ++ 10 ∷ after → Lacks 10 body → ((line : Line) → IsLineOf body line → ⊥) → BeginsWithLine text → ⊥
no_line_there text body after is lacks none there =
    let line = there.0 in
    let whole : body ++ 10 ∷ after ≡ (keyword line ++ flat_map spaced (words line)) ++ 10 ∷ there.1 = sym is ∙ there.3 ∙ line_then line there.1 in
    none line (there.2, same_line body _ after there.1 lacks (body_lacks line there.2) whole)

pub no_feed_no_line : (text : List ℕ) → Lacks 10 text → BeginsWithLine text → ⊥
no_feed_no_line text lacks there =
    let line = there.0 in
    let whole : text ≡ (keyword line ++ flat_map spaced (words line)) ++ 10 ∷ there.1 = there.3 ∙ line_then line there.1 in
    feed_there (keyword line ++ flat_map spaced (words line)) there.1 (rw whole at lacks)

-- a line and what follows it
pub line_is : (text body after : List ℕ) (line : Line) → text ≡ body ++ 10 ∷ after → IsLineOf body line → text ≡ line_text line ++ after
line_is text body after line is there = is ∙ ap (λ front. front ++ 10 ∷ after) there.1 ∙ sym (line_then line after)
