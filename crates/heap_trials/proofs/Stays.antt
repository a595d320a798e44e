-- What stands in a state still does after a service: each adds HOBs, or none.
use Rattle.std.proofs.Common.{◌≡◌, ℕ, Bool, true, false, cond, List, [], ◌∷◌, length, zero, suc, arith, Option, Some, None, Result, Ok, Err, refl, sym, subst, inl, inr, ◌<◌, fold, slice_get, is_some, option_map, IfOk, replicate}
use Rattle.pi_base.specs.declared.guid.Guid.{Guid}
use Rattle.store_model.specs.declared.state.Body.TheVariants.{Bytes, Descriptor}
use Rattle.store_model.specs.{declared.state.HobEntry.HobEntry, declared.store_handle.Desc.Desc, declared.store_handle.DescKind.DescKind}
use Rattle.store_model.specs.declared.store_handle.DescKind.TheVariants.{Ppi, Callback, Dispatch}
use Rattle.store_model.specs.{declared.store_handle.GuidFrom.GuidFrom, declared.store_handle.Pool.Pool}
use Rattle.store_model.specs.{declared.store_handle.StoreFault.StoreFault, declared.store_handle.Sweep.Sweep}
use Rattle.store_model.specs.declared.store_handle.StoreFault.TheVariants as F
use Rattle.store_model.specs.StoreState.{StoreState, appended, next_body, pool_of, rounded}
use Rattle.store_model.specs.{StateFacts.IsDesc, StateFacts.IsDescriptorAt, Service.Pool.pool}
use Rattle.store_model.specs.Service.{Answers, Present, Service}
use Rattle.store_model.specs.Service.Descriptor.{desc, desc_of, guid_from, kind_at}
use Rattle.store_model.specs.Service.Install.{install, install_pairs, install_sweep, installed, reinstall, reinstall_pairs, reinstall_sweep, reinstalled, renamed, with_pending, with_ppi}
use Rattle.store_model.specs.Service.Notify.{notified, notify, notify_pairs, notify_sweep, with_note, with_note_of}
use Rattle.store_laws.specs.Bodies.{IsGrown}
use Rattle.store_laws.proofs.{BodyLaws.all_stay, Steps.grown_node}
use Rattle.heap_trials.specs.Scene.{AreThere, HasDesc, IsOfScene}

-- all bodies of a state stand in later ones
same_grown : (s : StoreState) → IsGrown s s
same_grown s = λ place body h. h

then_grown : (s t u : StoreState) → IsGrown s t → IsGrown t u → IsGrown s u
then_grown s t u a b = λ place body h. b place body (a place body h)

fold_grown : {A : Type 0} (f : StoreState → A → StoreState) (xs : List A) (s : StoreState) → ((u : StoreState) (a : A) → IsGrown u (f u a)) → IsGrown s (fold f s xs)
fold_grown f [] s each = same_grown s
fold_grown f (a ∷ xs) s each = then_grown s (f s a) (fold f (f s a) xs) (each s a) (fold_grown f xs (f s a) each)

-- a service that answers is past its refusals
past : {A : Type 0} (b : Bool) (fault : StoreFault) (service : Service A) (answer : A × StoreState) → cond b (Err fault) service ≡ Ok answer → service ≡ Ok answer
past true fault service answer e = cc
past false fault service answer e = e

-- and its state is the one that is told
told_grown : {A : Type 0} (s : StoreState) (own : Service A) (x y : A × StoreState) → own ≡ Ok x → own ≡ Ok y → IsGrown s x.1 → IsGrown s y.1
told_grown s own x y a b grown = let same : x ≡ y = cc in subst (λ p. IsGrown s p.1) same grown

pub pool_grows : (s : StoreState) (size : ℕ) (p : Pool) (t : StoreState) → pool s size ≡ Ok (p, t) → IsGrown s t
pool_grows s size p t e =
    let zeros : List ℕ = replicate (rounded size) 0 in
    let own : Pool × StoreState = (record { offset = next_body s; size = size }, appended s (pool_of (Bytes zeros))) in
    told_grown s (Ok own) own (p, t) refl (past _ F.Full _ (p, t) (past _ F.Full _ (p, t) e)) (all_stay.grown s _)

installed_grown : (s : StoreState) (list : List Desc) (by : ℕ) → IsGrown s (installed s list by)
installed_grown s list by =
    let ppis : StoreState = fold (with_ppi by) s list in
    then_grown s ppis (installed s list by) (fold_grown (with_ppi by) list s (λ u d. grown_node u))
    (fold_grown (with_pending by) (install_pairs s list) ppis (λ u pair. grown_node u))

pub install_grows : (s : StoreState) (list : List Desc) (by : ℕ) (sweep : Sweep) (t : StoreState) → install s list by ≡ Ok (sweep, t) → IsGrown s t
install_grows s list by sweep t e =
    let own : Sweep × StoreState = (install_sweep s list, installed s list by) in
    told_grown s (Ok own) own (sweep, t) refl (past _ F.Full _ (sweep, t) (past _ F.Bad _ (sweep, t) e)) (installed_grown s list by)

note_grown : (kind : DescKind) (by : ℕ) (u : StoreState) (d : Desc) → IsGrown u (with_note_of kind by u d)
note_grown Ppi by u d = same_grown u
note_grown Callback by u d = grown_node u
note_grown Dispatch by u d = grown_node u

notified_grown : (s : StoreState) (list : List Desc) (by : ℕ) → IsGrown s (notified s list by)
notified_grown s list by =
    let notes : StoreState = fold (with_note by) s list in
    then_grown s notes (notified s list by) (fold_grown (with_note by) list s (λ u d. note_grown (kind_at u d.offset) by u d))
    (fold_grown (with_pending by) (notify_pairs s list) notes (λ u pair. grown_node u))

pub notify_grows : (s : StoreState) (list : List Desc) (by : ℕ) (sweep : Sweep) (t : StoreState) → notify s list by ≡ Ok (sweep, t) → IsGrown s t
notify_grows s list by sweep t e =
    let own : Sweep × StoreState = (notify_sweep s list, notified s list by) in
    told_grown s (Ok own) own (sweep, t) refl (past _ F.Full _ (sweep, t) (past _ F.Bad _ (sweep, t) e)) (notified_grown s list by)

reinstalled_grown : (s : StoreState) (old new : Desc) (by : ℕ) → IsGrown s (reinstalled s old new by)
reinstalled_grown s old new by =
    let named : StoreState = record s { ppis = renamed s.ppis old.offset new.offset } in
    fold_grown (with_pending by) (reinstall_pairs s new) named (λ u pair. grown_node u)

pub reinstall_grows : (s : StoreState) (old new : Desc) (by : ℕ) (sweep : Sweep) (t : StoreState) → reinstall s old new by ≡ Ok (sweep, t) → IsGrown s t
reinstall_grows s old new by sweep t e =
    let own : Sweep × StoreState = (reinstall_sweep s old, reinstalled s old new by) in
    told_grown s (Ok own) own (sweep, t) refl (past _ F.Full _ (sweep, t) (past _ F.Missing _ (sweep, t) (past _ F.Bad _ (sweep, t) e))) (reinstalled_grown s old new by)

-- what all later states have, the state behind a call has
after : {A : Type 0} (P : StoreState → Type 0) (takes : Bool) (service : Service A) (s t : StoreState) (result : Result A StoreFault)
    → ((u : StoreState) → IsGrown s u → P u) → ((a : A) (u : StoreState) → service ≡ Ok (a, u) → IsGrown s u) → Answers takes service s result t → P t
after P takes service s t (Ok a) keeps grows e = keeps t (grows a t e)
after P takes service s t (Err F.Memory) keeps grows e = subst P (sym e.1) (keeps s (same_grown s))
after P takes service s t (Err F.Full) keeps grows e = subst P (sym e.1) (keeps s (same_grown s))
after P takes service s t (Err F.Bad) keeps grows e = subst P (sym e.1) (keeps s (same_grown s))
after P takes service s t (Err F.Missing) keeps grows e = subst P (sym e.1) (keeps s (same_grown s))
after P takes service s t (Err F.NotYet) keeps grows e = subst P (sym e.1) (keeps s (same_grown s))

pub desc_kept : (d : Desc) (s : StoreState) → HasDesc d s → (u : StoreState) → IsGrown s u → HasDesc d u
desc_kept d s h u grown = (h.0, grown d.offset (Descriptor h.0) h.1)

pub at_kept : (s u : StoreState) (kind : DescKind) (place : ℕ) → IsGrown s u → IsDescriptorAt s kind place → IsDescriptorAt u kind place
at_kept s u kind place grown d = (d.0, grown place (Descriptor d.0) d.1, d.2)

pub all_kept : (s : StoreState) → AreThere s → (u : StoreState) → IsGrown s u → AreThere u
all_kept s h u grown = record {
  installed = at_kept s u Ppi 0x40 grown h.installed;
  dispatch = at_kept s u Dispatch 0x70 grown h.dispatch;
  callback = at_kept s u Callback 0xa0 grown h.callback;
  other = at_kept s u Ppi 0xd0 grown h.other;
}

pub is_desc : (s : StoreState) (d : Desc) → IsOfScene d → AreThere s → IsDesc s d
is_desc s d (inl e) h = subst (IsDesc s) (sym e) (h.installed.0, h.installed.1)
is_desc s d (inr (inl e)) h = subst (IsDesc s) (sym e) (h.dispatch.0, h.dispatch.1)
is_desc s d (inr (inr (inl e))) h = subst (IsDesc s) (sym e) (h.callback.0, h.callback.1)
is_desc s d (inr (inr (inr e))) h = subst (IsDesc s) (sym e) (h.other.0, h.other.1)

-- a descriptor that was made is the service's
made_by : (full : Bool) (new told : Desc × StoreState) → cond full (Err F.Full) (Ok new) ≡ Ok told → new ≡ told
made_by true new told e = cc
made_by false new told e = cc

pub record IsMadeIn (s t : StoreState) (kind : DescKind) (d : Desc) : Type 0 where
  pub grown : IsGrown s t
  pub there : IsDescriptorAt t kind d.offset

pub is_made : (s : StoreState) (kind : DescKind) (number : ℕ) (from : Option (Guid × Option ℕ)) (d : Desc) (t : StoreState) → desc_of s kind number from ≡ Ok (d, t) → IsMadeIn s t kind d
is_made s kind number None d t e = cc
is_made s kind number (Some (guid, stands)) d t e =
    let hob : HobEntry = pool_of (Descriptor (record { kind = kind; guid = guid; stands = stands; number = number })) in
    let own : Desc × StoreState = (record { offset = next_body s }, appended s hob) in
    let told : Desc × StoreState = (d, t) in
    let same : own ≡ told = made_by _ own told e in
    let is : IsMadeIn s own.1 kind own.0 = record {
      grown = all_stay.grown s hob;
      there = (record { kind = kind; guid = guid; stands = stands; number = number }, all_stay.new s hob, refl);
    } in
    subst (λ (p : Desc × StoreState). IsMadeIn s p.1 kind p.0) same is

-- a state that stands behind a call has what later states have
pub kept_by : {A : Type 0} (P Now : StoreState → Type 0) (takes : Bool) (service : Service A) (s : StoreState) (result : Result A StoreFault)
    → ((u : StoreState) → IsGrown s u → P u) → ((a : A) (u : StoreState) → service ≡ Ok (a, u) → IsGrown s u) → ((t : StoreState) × Answers takes service s result t × Now t) → Present Now P
kept_by P Now takes service s result keeps grows row = (row.0, row.2, after P takes service s row.0 result keeps grows row.1)

-- a descriptor that was made may be handed in
pub has_new : (Now : StoreState → Type 0) (takes : Bool) (s : StoreState) (kind : DescKind) (guid : GuidFrom) (number : ℕ) (result : Result Desc StoreFault)
    → ((t : StoreState) × Answers takes (desc s kind guid number) s result t × Now t) → IfOk result (λ d. Present Now (HasDesc d))
has_new Now takes s kind guid number (Ok d) row =
    let made = is_made s kind number (guid_from s guid) d row.0 row.1 in
    (row.0, row.2, (made.there.0, made.there.1))
has_new Now takes s kind guid number (Err fault) row = tt

-- what is told of a place stands there
pub some_at : {A B : Type 0} (f : A → B) (xs : List A) (n : ℕ) → is_some (option_map f (slice_get xs n)) ≡ true → n < length xs
some_at f [] n e = cc
some_at f (x ∷ xs) zero e = omega arith
some_at f (x ∷ xs) (suc n) e = let rest = some_at f xs n e in omega (arith, rest)
