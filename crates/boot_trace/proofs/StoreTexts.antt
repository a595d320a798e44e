-- The text of all lists of a store, by its parts.
use Rattle.std.proofs.Common.{◌≡◌, ℕ, List, [], ◌∷◌, ◌++◌, length, map, ap, refl, sym, ◌∙◌, append_assoc, flat_map, append-nil}
use Rattle.std.proofs.{lemmas.List.length-map, lemmas.Grind.flat_map-append}
use Rattle.boot_model.specs.{declared.line.Line.Line, Text.line_text, Text.text_of}
use Rattle.store_model.specs.{StoreState.StoreState, Service.Reading.entry_told, Service.Reading.pending_told}
use Rattle.boot_model.specs.Listing.{store_lines, ppi_lines, callback_lines, dispatch_lines, pending_lines, hob_lines, ppi_line, callback_line, dispatch_line, pending_line}
use Rattle.store_model.specs.declared.store_handle.EntryList.TheVariants.{Ppis, Callbacks, Dispatches, Pendings}
use Rattle.boot_trace.specs.EntryLines.{count_line, told_line, list_text}

-- the text of a list of entries
same_lines : {A B : Type 0} (line : B → Line) (tell : A → B) (direct : A → Line) → ((x : A) → direct x ≡ line (tell x)) → (xs : List A) → map direct xs ≡ map line (map tell xs)
same_lines line tell direct same [] = refl
same_lines line tell direct same (x ∷ xs) = ap (λ y. y ∷ map direct xs) (same x) ∙ ap (λ ys. line (tell x) ∷ ys) (same_lines line tell direct same xs)

listed : {A B : Type 0} (count : ℕ → Line) (line : B → Line) (tell : A → B) (direct : A → Line) → ((x : A) → direct x ≡ line (tell x)) → (xs : List A)
    → text_of (count (length xs) ∷ map direct xs) ≡ text_of (count (length (map tell xs)) ∷ map line (map tell xs))
listed count line tell direct same xs =
    ap (λ n. text_of (count n ∷ map direct xs)) (sym (length-map xs tell)) ∙ ap (λ ys. text_of (count (length (map tell xs)) ∷ ys)) (same_lines line tell direct same xs)

ppi_text : (s : StoreState) → text_of (ppi_lines s) ≡ list_text s Ppis
ppi_text s = listed (count_line Ppis) (told_line Ppis) (entry_told s) (ppi_line s) (λ x. refl) s.ppis

callback_text : (s : StoreState) → text_of (callback_lines s) ≡ list_text s Callbacks
callback_text s = listed (count_line Callbacks) (told_line Callbacks) (entry_told s) (callback_line s) (λ x. refl) s.callbacks

dispatch_text : (s : StoreState) → text_of (dispatch_lines s) ≡ list_text s Dispatches
dispatch_text s = listed (count_line Dispatches) (told_line Dispatches) (entry_told s) (dispatch_line s) (λ x. refl) s.dispatches

pending_text : (s : StoreState) → text_of (pending_lines s) ≡ list_text s Pendings
pending_text s = listed (count_line Pendings) (told_line Pendings) (pending_told s) (pending_line s) (λ x. refl) s.pendings

-- the texts of five lists
five_texts : (a b c d e : List Line) → text_of (a ++ b ++ c ++ d ++ e) ≡ (text_of a ++ (text_of b ++ (text_of c ++ (text_of d ++ [])))) ++ text_of e
five_texts a b c d e =
    let all = flat_map-append line_text (a ++ b ++ c ++ d) e in
    let four = flat_map-append line_text (a ++ b ++ c) d in
    let three = flat_map-append line_text (a ++ b) c in
    let two = flat_map-append line_text a b in
    let shape : (text_of a ++ text_of b ++ text_of c) ++ text_of d ≡ text_of a ++ (text_of b ++ (text_of c ++ (text_of d ++ []))) =
    append_assoc (text_of a ++ text_of b) (text_of c) (text_of d) ∙ append_assoc (text_of a) (text_of b) (text_of c ++ text_of d)
    ∙ ap (λ t. text_of a ++ (text_of b ++ (text_of c ++ t))) (sym (append-nil (text_of d))) in
    all ∙ ap (λ t. t ++ text_of e) (four ∙ ap (λ t. t ++ text_of d) (three ∙ ap (λ t. t ++ text_of c) two) ∙ shape)

-- the lists of entries, and then the HOBs
pub store_text : (s : StoreState) → text_of (store_lines s) ≡ flat_map (list_text s) (Ppis ∷ Callbacks ∷ Dispatches ∷ Pendings ∷ []) ++ text_of (hob_lines s)
store_text s =
    let d = ap (λ t. t ++ []) (pending_text s) in
    let c = ap (λ t. t ++ (text_of (pending_lines s) ++ [])) (dispatch_text s) ∙ ap (λ t. list_text s Dispatches ++ t) d in
    let b = ap (λ t. t ++ (text_of (dispatch_lines s) ++ (text_of (pending_lines s) ++ []))) (callback_text s) ∙ ap (λ t. list_text s Callbacks ++ t) c in
    let a = ap (λ t. t ++ (text_of (callback_lines s) ++ (text_of (dispatch_lines s) ++ (text_of (pending_lines s) ++ [])))) (ppi_text s) ∙ ap (λ t. list_text s Ppis ++ t) b in
    five_texts (ppi_lines s) (callback_lines s) (dispatch_lines s) (pending_lines s) (hob_lines s) ∙ ap (λ t. t ++ text_of (hob_lines s)) a
