-- The top frame, which stands last where they are kept.
use Rattle.std.proofs.Common.{◌≡◌, ◌+◌, ◌-◌, ◌<◌, ◌≤◌, Some, None, slice_get, List, [], ◌∷◌, ◌++◌, set, get_or, take, length, refl, sym, ap, ◌∙◌, subst, arith, length-append, length-set, reverse}
use Rattle.std.specs.List.{refill}
use Rattle.std.proofs.lemmas.List.{reverse-append, reverse-reverse}
use Rattle.boot_model.specs.declared.frame.Frame.{Frame}
use Rattle.phase_parts.specs.Frames.{below_top, swept, top_of, top_sweep}
use Rattle.phase_parts.specs.Needs.{IsWithin}
use Rattle.phase_parts.proofs.PeekedBytes.{refilled}

module _ {X : Type 0} where
  -- what is read and written behind a list
  read_last : (xs : List X) (top x : X) → get_or (xs ++ top ∷ []) (length xs) x ≡ top
  read_last [] top x = refl
  read_last (y ∷ ys) top x = read_last ys top x

  set_last : (xs : List X) (top new : X) → set (xs ++ top ∷ []) (length xs) new ≡ xs ++ new ∷ []
  set_last [] top new = refl
  set_last (y ∷ ys) top new = ap (λ t. y ∷ t) (set_last ys top new)

  get_last : (xs : List X) (top : X) → slice_get (xs ++ top ∷ []) (length xs) ≡ Some top
  get_last [] top = refl
  get_last (y ∷ ys) top = get_last ys top

  take_front : (xs : List X) (top : X) → take (length xs) (xs ++ top ∷ []) ≡ xs
  take_front [] top = refl
  take_front (y ∷ ys) top = ap (λ t. y ∷ t) (take_front ys top)

  nothing : (items : List X) → reverse items ≡ [] → items ≡ []
  nothing items e = sym (reverse-reverse items) ∙ ap reverse e

  -- they are kept so
  kept : (items : List X) (top : X) (below : List X) → reverse items ≡ top ∷ below → items ≡ reverse below ++ top ∷ []
  kept items top below e = sym (reverse-reverse items) ∙ ap reverse e ∙ reverse-append (top ∷ []) below

  last_at : (items below : List X) (top : X) → items ≡ reverse below ++ top ∷ [] → length items - 1 ≡ length (reverse below)
  last_at items below top e = let n : length items ≡ length (reverse below) + 1 = ap length e ∙ length-append (reverse below) (top ∷ []) in omega (arith, n)

  -- the last one is the top one
  pub top_is : (items : List X) (top : X) (below : List X) (x : X) → reverse items ≡ top ∷ below → x ≡ get_or items (length items - 1) x → x ≡ top
  top_is items top below x e read =
      let is = kept items top below e in
      read ∙ ap (λ i. get_or items i x) (last_at items below top is) ∙ ap (λ xs. get_or xs (length (reverse below)) x) is ∙ read_last (reverse below) top x

  -- where none is kept none stands
  pub none_stands : (items : List X) (top : X) (below : List X) → reverse items ≡ top ∷ below → length items ≤ 0 → ⊥
  none_stands items top below e none = let n : length items ≡ length (reverse below) + 1 = ap length (kept items top below e) ∙ length-append (reverse below) (top ∷ []) in omega (arith, n)

  -- another in the place of the last one stands in that of the top one
  pub top_set : (items : List X) (top : X) (below : List X) (new : X) → reverse items ≡ top ∷ below
      → reverse (refill (length items) items (set items (length items - 1) new)) ≡ new ∷ below
  top_set items top below new e =
      let is = kept items top below e in
      let there : set items (length items - 1) new ≡ reverse below ++ new ∷ [] =
      ap (λ i. set items i new) (last_at items below top is) ∙ ap (λ xs. set xs (length (reverse below)) new) is ∙ set_last (reverse below) top new in
      ap reverse (refilled items (set items (length items - 1) new) (length-set items (length items - 1) new) ∙ there) ∙ reverse-append (reverse below) (new ∷ []) ∙ ap (λ xs. new ∷ xs) (reverse-reverse below)

  -- it is changed there
  pub top_changed : (items : List X) (top : X) (below : List X) (x new : X) (change : X → X) → reverse items ≡ top ∷ below → x ≡ get_or items (length items - 1) x → new ≡ change x
      → reverse (refill (length items) items (set items (length items - 1) new)) ≡ change top ∷ below
  top_changed items top below x new change e read is = top_set items top below new e ∙ ap (λ f. f ∷ below) (is ∙ ap change (top_is items top below x e read))

-- the last one stands at a place that a block may have
pub top_within : {W : Type 0} (items frames : List (Frame W)) (x : Frame W) → reverse items ≡ frames → 0 < length items → x ≡ get_or items (length items - 1) x → IsWithin frames → x.position < 1024
top_within items [] x e some read within = let none : length items ≡ 0 = ap length (nothing items e) in absurd (omega (arith, some, none))
top_within items (frame ∷ below) x e some read within = subst (λ (f : Frame _). f.position < 1024) (sym (top_is items frame below x e read)) within

-- the top one, and those below it
pub top_get : {W : Type 0} (items frames : List (Frame W)) → reverse items ≡ frames → slice_get items (length items - 1) ≡ top_of frames
top_get items [] e = ap (λ (xs : List (Frame _)). slice_get xs (length xs - 1)) (nothing items e)
top_get items (frame ∷ below) e =
    let is = kept items frame below e in
    ap (λ i. slice_get items i) (last_at items below frame is) ∙ ap (λ (xs : List (Frame _)). slice_get xs (length (reverse below))) is ∙ get_last (reverse below) frame

pub top_ended : {W : Type 0} (items frames : List (Frame W)) → reverse items ≡ frames → reverse (take (length items - 1) items) ≡ below_top frames
top_ended items [] e = ap (λ (xs : List (Frame _)). reverse (take (length xs - 1) xs)) (nothing items e)
top_ended items (frame ∷ below) e =
    let is = kept items frame below e in
    ap reverse (ap (λ i. take i items) (last_at items below frame is) ∙ ap (take (length (reverse below))) is ∙ take_front (reverse below) frame) ∙ reverse-reverse below

-- the top one's sweep is kept
pub sweep_kept : {W : Type 0} (items frames : List (Frame W)) (top : Frame W) (sweep : W) → reverse items ≡ frames → 0 < length items → top ≡ get_or items (length items - 1) top
    → reverse (refill (length items) items (set items (length items - 1) (record top { sweep = Some sweep }))) ≡ swept frames sweep
sweep_kept items [] top sweep e some read = let none : length items ≡ 0 = ap length (nothing items e) in absurd (omega (arith, some, none))
sweep_kept items (frame ∷ below) top sweep e some read =
    top_set items frame below (record top { sweep = Some sweep }) e ∙ ap (λ (f : Frame _). record f { sweep = Some sweep } ∷ below) (top_is items frame below top e read)

pub none_swept : {W : Type 0} (items frames : List (Frame W)) (sweep : W) → reverse items ≡ frames → length items ≤ 0 → reverse (refill (length items) items items) ≡ swept frames sweep
none_swept items [] sweep e none = ap reverse (refilled items items refl) ∙ e
none_swept items (frame ∷ below) sweep e none = absurd (none_stands items frame below e none)

-- what is read of the top one
pub sweep_read : {W : Type 0} (frames : List (Frame W)) (frame : Frame W) → Some frame ≡ top_of frames → frame.sweep ≡ top_sweep frames
sweep_read [] frame e = absurd cc
sweep_read (first ∷ below) frame e = let same : frame ≡ first = cc in ap (λ (f : Frame _). f.sweep) same

pub no_sweep : {W : Type 0} (frames : List (Frame W)) → None ≡ top_of frames → None ≡ top_sweep frames
no_sweep [] e = refl
no_sweep (first ∷ below) e = absurd cc
