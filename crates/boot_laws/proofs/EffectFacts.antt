-- What an action of a script leaves: a store with its facts, and registers of numbers that fit.
use Rattle.std.proofs.Common.{◌≡◌, ℕ, zero, suc, ◌+◌, ◌-◌, ◌*◌, ◌%◌, ◌^◌, ◌≤◌, ◌<◌, ◌==◌, ◌&&◌, Bool, true, false, cond, List, [], ◌∷◌, arith, sym, refl, subst, Option, Some, None, Ok, Err, nat_lt, IfSome, slice_set, slice_get, filter, option_map}
use Rattle.std.specs.{Bool.⊤, List.list_all}
use Rattle.std.proofs.lemmas.Bool.Decides.{nat_tests}
use Rattle.pi_base.specs.{Lists.Each, declared.phase.Phase.TheVariants.Pei}
use Rattle.hob_codec.specs.{HobReading.hob_of, HobValue.HobValue, HobBytes.length_of}
use Rattle.act_code.specs.{declared.action.Action.Action, declared.action.GuidArg.GuidArg, Format.IsGuidArg}
use Rattle.act_code.specs.declared.action.Action.TheVariants as A
use Rattle.act_code.specs.declared.action.GuidArg.TheVariants as G
use Rattle.store_model.specs.{declared.state.Entry.Entry, declared.store_handle.DescKind.DescKind, declared.store_handle.Desc.Desc}
use Rattle.store_model.specs.declared.store_handle.DescKind.TheVariants.{Ppi, Callback, Dispatch}
use Rattle.store_model.specs.declared.store_handle.GuidFrom.{GuidFrom}
use Rattle.store_model.specs.declared.store_handle.GuidFrom.TheVariants.{Inline, At}
use Rattle.store_model.specs.{declared.store_handle.StoreFault.StoreFault, Service.Service, Service.in_room, Service.Reading.ppis_of}
use Rattle.store_model.specs.declared.store_handle.StoreFault.TheVariants as F
use Rattle.store_model.specs.StoreState.{StoreState, free, appended, end_place}
use Rattle.store_model.specs.StateFacts.{IsStoreState, IsEntry, IsNumberOf}
use Rattle.store_model.specs.{Service.Pool.pool, Service.Descriptor.desc, Service.Descriptor.number_at}
use Rattle.store_model.specs.{Service.Install.install, Service.Install.reinstall, Service.Notify.notify}
use Rattle.store_model.specs.Service.Hob.{create_hob, hob_entry}
use Rattle.store_model.specs.Service.Memory.{set_memory, pages, pages_taken, early_pages, allocation_len, with_pages, page_len}
use Rattle.store_laws.specs.Keeping.{Keeps, IsWholeGuid, IsMade, IsWord}
use Rattle.boot_model.specs.{declared.frame.Register.Register, MachineFacts.HoldRegisters, MachineFacts.IsModuleNumber, PeiMachine.Frame}
use Rattle.boot_model.specs.declared.frame.Register.TheVariants.{Empty, Number, PoolIn, DescriptorIn, HandleIn}
use Rattle.boot_model.specs.Registers.{register, number_of, number_in, offset_of, both}
use Rattle.boot_model.specs.PeiAction.{Reply, Effect, effect, guid_arg, desc_number, kind_number}
use Rattle.boot_model.proofs.Held.{held_pool, held_place, held_list, held_two}
use Rattle.boot_laws.specs.RunFacts.{IsFitting, FitRegisters}
use Rattle.boot_laws.proofs.{Firings.number_of as number_is, StoreLaws.StoreLaws, EffectForms.effect_has, EffectForms.given}
use Rattle.boot_model.proofs.{ScriptActions.IsOfScript, ScriptHobs.script_hob}
use Rattle.store_laws.proofs.Hobs.{script_entry}
use Rattle.boot_laws.specs.EffectForms.{EffectHas, RepliesHave, WritesHave}

pub record FitsReply (reply : Reply) : Type 0 where
  pub store : IsStoreState reply.store
  pub registers : FitRegisters reply.registers

-- after what an action does
abbrev pub FitsAfter : Effect → Type 0
FitsAfter does = EffectHas FitsReply FitRegisters does

pub set_fits : (registers : List Register) (r : ℕ) (x : Register) → IsFitting x → FitRegisters registers → FitRegisters (slice_set registers r x)
set_fits [] r x fits each = tt
set_fits (y ∷ ys) zero x fits each = (fits, each.1)
set_fits (y ∷ ys) (suc r) x fits each = (each.0, set_fits ys r x fits each.1)

-- the number in a register
register_fits : (registers : List Register) (r : ℕ) → FitRegisters registers → IsFitting (register registers r)
register_fits [] zero each = tt
register_fits [] (suc r) each = tt
register_fits (x ∷ xs) zero each = each.0
register_fits (x ∷ xs) (suc r) each = register_fits xs r each.1

held_fits : (held : Register) (n : ℕ) → IsFitting held → Some n ≡ number_of held → n < 2 ^ 64
held_fits Empty n fits e = cc
held_fits (Number m) n fits e = let same : m ≡ n = cc in subst (λ k. k < 2 ^ 64) same fits
held_fits (PoolIn pool) n fits e = cc
held_fits (DescriptorIn d) n fits e = cc
held_fits (HandleIn handle) n fits e = cc

number_held : (registers : List Register) (r n : ℕ) → FitRegisters registers → Some n ≡ number_in registers r → n < 2 ^ 64
number_held registers r n each e = held_fits (register registers r) n (register_fits registers r each) e

-- sums end at 64 bits, and an address of the heap has fewer
sum_fits : (old : Option ℕ) (n m : ℕ) → option_map (λ x. (x + n) % 2 ^ 64) old ≡ Some m → m < 2 ^ 64
sum_fits None n m e = cc
sum_fits (Some x) n m e = let same : (x + n) % 2 ^ 64 ≡ m = cc in omega (arith, same)

address_fits : StoreLaws → (s : StoreState) (place : Option ℕ) (offset m : ℕ) → IsStoreState s → ((p : ℕ) → Some p ≡ place → p ≤ end_place s) → offset < 256 ^ 4
    → option_map (λ p. s.base + p + offset) place ≡ Some m → m < 2 ^ 64
address_fits laws s None offset m facts at small e = cc
address_fits laws s (Some p) offset m facts at small e =
    let same : s.base + p + offset ≡ m = cc in
    let before = at p refl in
    let room = facts.room in
    let end = (laws.fit.heap s facts).end in omega (arith, same, before, room, end, small)

-- a descriptor
guid_whole : (registers : List Register) (guid : GuidArg) (from : GuidFrom) → IsGuidArg guid → Some from ≡ guid_arg registers guid → IsWholeGuid from
guid_whole registers (G.Inline g) from is e = let same : Inline g ≡ from = cc in subst IsWholeGuid same is
guid_whole registers (G.Register v) from is e = at_address (number_in registers v) e where
  at_address : (held : Option ℕ) → Some from ≡ option_map (λ address. At address) held → IsWholeGuid from
  at_address None e = cc
  at_address (Some address) e = let same : At address ≡ from = cc in subst IsWholeGuid same tt

-- the last operand of a notification's descriptor is a block
abbrev IsBlock : DescKind → ℕ → Type 0
IsBlock Ppi arg = ⊤
IsBlock Callback arg = arg < 64
IsBlock Dispatch arg = arg < 64

and_right : (a b : Bool) → (a && b) ≡ true → b ≡ true
and_right true b e = e
and_right false b e = cc

below : (n limit : ℕ) (more : Bool) → (nat_lt n limit && more) ≡ true → n < limit
below n limit more e = first (nat_lt n limit) refl e where
  first : (b : Bool) → nat_lt n limit ≡ b → (b && more) ≡ true → n < limit
  first true t e = grind (arith, nat_tests, t)
  first false t e = cc

block_on : (b : Bool) (kind arg : ℕ) → (kind == 0) ≡ b → list_all (λ n. nat_lt n 64) (cond b [] (arg ∷ [])) ≡ true → IsBlock (kind_number kind) arg
block_on true kind arg e h = let none : kind ≡ 0 = grind (arith, nat_tests, e) in subst (λ k. IsBlock (kind_number k) arg) (sym none) tt
block_on false zero arg e h = cc
block_on false (suc zero) arg e h = below arg 64 _ h
block_on false (suc (suc n)) arg e h = below arg 64 _ h

block_is : (kind arg : ℕ) (registers : Bool) → (registers && list_all (λ n. nat_lt n 64) (cond (kind == 0) [] (arg ∷ []))) ≡ true → IsBlock (kind_number kind) arg
block_is kind arg registers e = block_on (kind == 0) kind arg refl (and_right registers _ e)

entry_number : (number arg n : ℕ) → IsModuleNumber number → arg < 64 → Some n ≡ Some (number * 64 + arg) → n < 0x40000
entry_number number arg n among block e = let same : n ≡ number * 64 + arg = cc in omega (arith, same, among, block)

desc_fits : (number : ℕ) (registers : List Register) (kind : DescKind) (arg n : ℕ) → FitRegisters registers → IsModuleNumber number → IsBlock kind arg → Some n ≡ desc_number number registers kind arg → IsNumberOf kind n
desc_fits number registers Ppi arg n fits among block e = number_held registers arg n fits e
desc_fits number registers Callback arg n fits among block e = entry_number number arg n among block e
desc_fits number registers Dispatch arg n fits among block e = entry_number number arg n among block e

made_is : (kind : DescKind) (argument : GuidFrom × ℕ) (from : Option GuidFrom) (number : Option ℕ) → ((g : GuidFrom) → Some g ≡ from → IsWholeGuid g) → ((n : ℕ) → Some n ≡ number → IsNumberOf kind n)
    → Some argument ≡ both from number → IsMade kind argument.0 argument.1
made_is kind argument None number f g e = cc
made_is kind argument (Some from) None f g e = cc
made_is kind argument (Some from) (Some n) f g e =
    let own : GuidFrom × ℕ = (from, n) in
    let same : own ≡ argument = cc in
    subst (λ (x : GuidFrom × ℕ). IsMade kind x.0 x.1) same (record { guid_is = f from refl; number_is = g n refl })

-- the value of a PPI that is found
nth_fits : (s : StoreState) (entries : List Entry) (n : ℕ) (found : Desc × ℕ) → IsStoreState s → Each (IsEntry s Ppi) entries
    → Some found ≡ option_map (λ entry. (record { offset = entry.descriptor }, number_at s entry.descriptor)) (slice_get entries n) → found.1 < 2 ^ 64
nth_fits s [] n found facts each e = cc
nth_fits s (entry ∷ entries) zero found facts each e =
    let own : Desc × ℕ = (record { offset = entry.descriptor }, number_at s entry.descriptor) in
    let same : own ≡ found = cc in
    subst (λ (x : Desc × ℕ). x.1 < 2 ^ 64) same (number_is s Ppi entry.descriptor facts each.0.1)
nth_fits s (entry ∷ entries) (suc n) found facts each e = nth_fits s entries n found facts each.1 e

kept_by : (b : Bool) (s : StoreState) (entry : Entry) (rest : List Entry) → IsEntry s Ppi entry → Each (IsEntry s Ppi) rest → Each (IsEntry s Ppi) (cond b (entry ∷ rest) rest)
kept_by true s entry rest is each = (is, each)
kept_by false s entry rest is each = each

filter_each : (s : StoreState) (test : Entry → Bool) (entries : List Entry) → Each (IsEntry s Ppi) entries → Each (IsEntry s Ppi) (filter test entries)
filter_each s test [] each = tt
filter_each s test (entry ∷ entries) each = kept_by (test entry) s entry (filter test entries) each.0 (filter_each s test entries each.1)

-- a HOB of a script
hob_kept : StoreLaws → (s : StoreState) (hob : HobValue) (kind : ℕ) (body : List ℕ) → IsStoreState s → IsOfScript Pei (A.Hob kind body) → Some hob ≡ hob_of kind body → Keeps (create_hob s hob)
hob_kept laws s hob kind body facts is e = in_turn (nat_lt (free s) (length_of hob)) refl where
  in_turn : (full : Bool) → nat_lt (free s) (length_of hob) ≡ full → Keeps (cond full (Err F.Full) (Ok (s.base + end_place s, appended s (hob_entry hob))))
  in_turn true t = tt
  in_turn false t =
      let made = script_hob kind body hob is.is.in_range e in
      let len = made.len in
      let room : length_of hob ≤ free s = grind (arith, nat_tests, t) in
      (laws.steps.hob s (hob_entry hob) (record { state = facts; room = omega (arith, len, room) }) (script_entry s.board s.taken hob (record { script = made.script; len = len }))).state

-- pages lie below the end of pages
past : {A : Type 0} (b : Bool) (fault : StoreFault) (service : Service A) (answer : A × StoreState) → cond b (Err fault) service ≡ Ok answer → service ≡ Ok answer
past true fault service answer e = cc
past false fault service answer e = e

taken_fits : StoreLaws → (s : StoreState) (memory_type len address : ℕ) (t : StoreState) → IsStoreState s → pages_taken s memory_type len ≡ Ok (address, t) → address < 2 ^ 64
taken_fits laws s memory_type len address t facts e =
    let own : ℕ × StoreState = (s.page_end - (s.taken + len), with_pages s memory_type len) in
    let told : ℕ × StoreState = (address, t) in
    let same : own ≡ told = cc in
    let end = (laws.fit.heap s facts).pages_end in
    subst (λ (x : ℕ × StoreState). x.0 < 2 ^ 64) same (omega (arith, end))

pages_fit : StoreLaws → (b : Bool) (s : StoreState) (memory_type count address : ℕ) (t : StoreState) → IsStoreState s
    → cond b (in_room s (allocation_len + page_len * count) (pages_taken s memory_type (page_len * count))) (early_pages s memory_type (page_len * count)) ≡ Ok (address, t) → address < 2 ^ 64
pages_fit laws true s memory_type count address t facts e = taken_fits laws s memory_type (page_len * count) address t facts (past _ F.Full _ (address, t) e)
pages_fit laws false s memory_type count address t facts e =
    taken_fits laws s memory_type (page_len * count) address t facts (past _ F.Full _ (address, t) (past _ F.Full _ (address, t) (past _ F.NotYet _ (address, t) e)))

-- a module's number fits
word_of : (number : ℕ) → IsModuleNumber number → IsWord number
word_of number is = omega (arith, is)

succeeds : {B : Type 0} (service : Service B) (pair : B × StoreState) → Keeps service → service ≡ Ok pair → IsStoreState pair.1
succeeds service pair keeps e = subst (λ x. Keeps x) e keeps

writes_fit : StoreLaws → (s : StoreState) (frame : Frame) → IsStoreState s → HoldRegisters frame.registers s → FitRegisters frame.registers → WritesHave s frame (λ action registers. IsOfScript Pei action → FitRegisters registers)
writes_fit laws s frame facts held fits = record {
  same = λ action is. fits;
  set = λ r n is. let small = is.is.in_range.1 in set_fits frame.registers r (Number n) (omega (arith, small)) fits;
  add = λ r n sum e is. set_fits frame.registers r (Number sum) (sum_fits (number_in frame.registers r) n sum e) fits;
  addr = λ v x offset address e is.
      set_fits frame.registers v (Number address) (address_fits laws s (offset_of (register frame.registers x)) offset address facts (λ p. held_place s frame.registers x p held) is.is.in_range.1.1 e) fits;
}

replies_fit : StoreLaws → (s : StoreState) (frame : Frame) → IsStoreState s → HoldRegisters frame.registers s → FitRegisters frame.registers → IsModuleNumber frame.module_number
    → RepliesHave s frame (λ action reply. IsOfScript Pei action → FitsReply reply)
replies_fit laws s frame facts held fits among = record {
  refused = λ action status other is. record { store = facts; registers = fits };
  pool = λ r size made new e is. record { store = succeeds (pool s size) (made, new) (laws.keep.pool s size facts) e; registers = set_fits frame.registers r (PoolIn made) tt fits };
  store = λ p offset bytes to new in_pool e is. record {
    store = subst (λ o. IfSome o IsStoreState) e (laws.keep.store s to offset bytes facts (held_pool s frame.registers p to held (sym in_pool)));
    registers = fits;
  };
  peek = λ v n bytes is. record { store = facts; registers = fits };
  desc = λ d kind guid arg of made new e f is.
      let whole = made_is (kind_number kind) of (guid_arg frame.registers guid) (desc_number frame.module_number frame.registers (kind_number kind) arg)
      (λ g. guid_whole frame.registers guid g is.is.in_range.1.1) (λ n. desc_fits frame.module_number frame.registers (kind_number kind) arg n fits among (block_is kind arg _ is.indexed)) (sym e) in
      record { store = succeeds (desc s (kind_number kind) of.0 of.1) (made, new) (laws.keep.desc s (kind_number kind) of.0 of.1 facts whole) f; registers = set_fits frame.registers d (DescriptorIn made) tt fits };
  install = λ list found sweep new e f is. record {
    store = succeeds (install s found frame.module_number) (sweep, new)
        (laws.keep.install s found frame.module_number facts (held_list s frame.registers list found found held (sym e) refl) (word_of frame.module_number among)) f;
    registers = fits;
  };
  reinstall = λ old new pair sweep after e f is.
      let are = held_two s frame.registers old new pair.0 pair.1 held (sym e) in
      record {
        store = succeeds (reinstall s pair.0 pair.1 frame.module_number) (sweep, after)
            (laws.keep.reinstall s pair.0 pair.1 frame.module_number facts are.0 are.1 (word_of frame.module_number among)) f;
        registers = fits;
      };
  notify = λ list found sweep new e f is. record {
    store = succeeds (notify s found frame.module_number) (sweep, new)
        (laws.keep.notify s found frame.module_number facts (held_list s frame.registers list found found held (sym e) refl) (word_of frame.module_number among)) f;
    registers = fits;
  };
  locate = λ d v guid instance found e is. record {
    store = facts;
    registers = set_fits (slice_set frame.registers d (DescriptorIn found.0)) v (Number found.1) (nth_fits s (ppis_of s guid) instance found facts (filter_each s _ s.ppis facts.ppis) (sym e))
        (set_fits frame.registers d (DescriptorIn found.0) tt fits);
  };
  hob = λ kind body hob address new e f is. record { store = succeeds (create_hob s hob) (address, new) (hob_kept laws s hob kind body facts is (sym e)) f; registers = fits };
  memory = λ begin len span done new e f is. record { store = succeeds (set_memory s span.0 span.1) (done, new) (laws.keep.set_memory s span.0 span.1 facts) f; registers = fits };
  pages = λ r memory_type count address new e is.
      let type = is.is.in_range.1.0 in
      let small = is.is.in_range.1.1 in
      record {
        store = succeeds (pages s memory_type count) (address, new) (laws.keep.pages s memory_type count facts (omega (arith, type)) (omega (arith, small))) e;
        registers = set_fits frame.registers r (Number address) (pages_fit laws s.moved s memory_type count address new facts e) fits;
      };
  mode = λ r is. let mode = facts.boot_mode in record { store = facts; registers = set_fits frame.registers r (Number s.boot_mode) (omega (arith, mode)) fits };
  set_mode = λ form r mode small is. record { store = laws.keep.boot_mode s mode facts (grind (arith, nat_tests, small)); registers = fits };
}

pub action_fits : StoreLaws → (s : StoreState) (frame : Frame) (action : Action) → IsStoreState s → HoldRegisters frame.registers s → FitRegisters frame.registers → IsModuleNumber frame.module_number → IsOfScript Pei action
    → FitsAfter (effect s frame action)
action_fits laws s frame action facts held fits among is =
    given FitsReply FitRegisters (effect s frame action) is
    (effect_has s frame (λ own reply. IsOfScript Pei own → FitsReply reply) (λ own registers. IsOfScript Pei own → FitRegisters registers) (writes_fit laws s frame facts held fits) (replies_fit laws s frame facts held fits among) action)
