-- The modules of the generated volume: their scripts are right, and nothing stands against the volume.
use Rattle.std.proofs.Common.{◌≡◌, ℕ, zero, suc, ◌+◌, ◌-◌, ◌*◌, ◌<◌, ◌≤◌, ◌^◌, Bool, true, false, cond, List, [], ◌∷◌, ◌++◌, length, map, min, replicate, Option, Some, None, refl, sym, ap, ◌∙◌, arith, length-append, Result, Ok, Err, IfErr, nat_lt, ◌==◌, ◌||◌, ◌&&◌}
use Rattle.std.proofs.{lemmas.Bool.Decides.nat_tests, lemmas.List.length-replicate, lemmas.List.length-map}
use Rattle.std.specs.List.{list_any}
use Rattle.pi_base.specs.{declared.guid.Guid.Guid, declared.phase.Phase.TheVariants.Pei, declared.word.Word.TheVariants.Success}
use Rattle.act_code.specs.{declared.action.Action.Action, declared.action.GuidArg.TheVariants.Inline}
use Rattle.act_code.specs.declared.action.Action.TheVariants.{Set, Desc, Install, Memory, Ret}
use Rattle.act_code.specs.Script.{IsInGrammar, IsBlock, IsSound, AreSound, script_bytes}
use Rattle.pi_base.specs.declared.known_guid.TheConstants.{DXE_IPL_PPI}
use Rattle.fv_volume.specs.{declared.build.new_file.NewSection.NewSection, FileSystems.Ffs2, declared.build.new_file.NewFile.NewFile}
use Rattle.fv_volume.specs.{declared.build.fault.BuildFault.BuildFault, Placing.gap, Placing.laid}
use Rattle.fv_volume.specs.declared.build.fault.BuildFault.TheVariants.{TooMany, Size, NoRoom, Memory as Wanting}
use Rattle.fv_volume.specs.{Sections.body_bytes, Sections.is_section_too_long, Header.plain}
use Rattle.fv_volume.specs.Files.{file_bytes, is_past_size, is_file_too_long}
use Rattle.fv_volume.specs.Building.{need, volume_fault, IsRefusal}
use Rattle.fv_volume.proofs.Sizes.{length-file_with}
use Rattle.fv_volume.specs.Generated.{numbered, installs, memory_said, hand_off, actions_of, script_of, expression_of, module_of, downward, generated_files}

-- each action is sound, whatever follows in its block
set_sound : (left r n : ℕ) → nat_lt r 16 ≡ true → n < 256 ^ 8 → IsSound Pei 1 left (Set r n)
set_sound left r n small fits =
    let below : r < 256 = grind (arith, nat_tests) in
    record { is = record { of_phase = refl; in_range = (below, fits) }; indexed = ap (λ b. (b && true) && true) small; room = refl }

desc_sound : (left d r : ℕ) (ppi : Guid) → nat_lt d 16 ≡ true → nat_lt r 16 ≡ true → length ppi.0 ≡ 16 → IsSound Pei 1 left (Desc d 0 (Inline ppi) r)
desc_sound left d r ppi small_d small_r whole =
    let a : d < 256 = grind (arith, nat_tests) in
    let b : r < 256 = grind (arith, nat_tests) in
    record {
      is = record { of_phase = refl; in_range = (a, (refl, whole, b)) };
      indexed = ap (λ x. (x && (nat_lt r 16 && true)) && true) small_d ∙ ap (λ x. (x && true) && true) small_r;
      room = refl;
    }

install_sound : (left d : ℕ) → nat_lt d 16 ≡ true → IsSound Pei 1 left (Install (d ∷ []))
install_sound left d small = record { is = record { of_phase = refl; in_range = refl }; indexed = ap (λ b. (b && true) && true) small; room = refl }

memory_sound : (left begin length' : ℕ) → nat_lt begin 16 ≡ true → nat_lt length' 16 ≡ true → IsSound Pei 1 left (Memory begin length')
memory_sound left begin length' small_b small_l =
    let a : begin < 256 = grind (arith, nat_tests) in
    let b : length' < 256 = grind (arith, nat_tests) in
    record {
      is = record { of_phase = refl; in_range = (a, b) };
      indexed = ap (λ x. (x && (nat_lt length' 16 && true)) && true) small_b ∙ ap (λ x. (x && true) && true) small_l;
      room = refl;
    }

ret_sound : (left : ℕ) → IsSound Pei 1 left (Ret Success)
ret_sound left = record { is = record { of_phase = refl; in_range = tt }; indexed = refl; room = refl }

-- a PPI's installation, and what follows
installs_sound : (left r d value : ℕ) (ppi : Guid) (rest : List Action) → nat_lt r 16 ≡ true → nat_lt d 16 ≡ true → value < 256 ^ 8 → length ppi.0 ≡ 16
    → AreSound Pei 1 (left - 1 - 1 - 1) rest → AreSound Pei 1 left (installs r d ppi value ++ rest)
installs_sound left r d value ppi rest small_r small_d fits whole behind =
    (set_sound left r value small_r fits, (desc_sound (left - 1) d r ppi small_d small_r whole, (install_sound (left - 1 - 1) d small_d, behind)))

memory_said_sound : (left : ℕ) (rest : List Action) → AreSound Pei 1 (left - 1 - 1 - 1) rest → AreSound Pei 1 left (memory_said true ++ rest)
memory_said_sound left rest behind =
    (set_sound left 2 0x40000000 refl (omega arith), (set_sound (left - 1) 3 0x400000 refl (omega arith), (memory_sound (left - 1 - 1) 2 3 refl refl, behind)))

abbrev end : List Action
end = Ret Success ∷ []

ret_alone : (left : ℕ) → AreSound Pei 1 left (Ret Success ∷ [])
ret_alone left = (ret_sound left, tt)

block : (first last : Bool) (i : ℕ) → i < 256 ^ 8 → IsBlock Pei 1 (actions_of first last i)
block true true i fits = record {
  number = refl;
  sound = installs_sound 10 0 1 i (numbered 2 i) (memory_said true ++ (hand_off true ++ end)) refl refl fits refl (memory_said_sound 7 (hand_off true ++ end) (installs_sound 4 4 5 0 DXE_IPL_PPI end refl refl (omega arith) refl (ret_alone 1)));
  ret = refl;
}
block true false i fits = record {
  number = refl;
  sound = installs_sound 7 0 1 i (numbered 2 i) (memory_said true ++ end) refl refl fits refl (memory_said_sound 4 end (ret_alone 1));
  ret = refl;
}
block false true i fits = record {
  number = refl;
  sound = installs_sound 7 0 1 i (numbered 2 i) (hand_off true ++ end) refl refl fits refl (installs_sound 4 4 5 0 DXE_IPL_PPI end refl refl (omega arith) refl (ret_alone 1));
  ret = refl;
}
block false false i fits = record {
  number = refl;
  sound = installs_sound 4 0 1 i (numbered 2 i) end refl refl fits refl (ret_alone 1);
  ret = refl;
}

-- the script of a module is in the grammar of scripts
pub in_grammar : (first last : Bool) (i : ℕ) → i < 256 ^ 8 → IsInGrammar (script_of first last i)
in_grammar first last i fits = record { number = refl; blocks = (block first last i fits, tt) }

-- the sections of a module, the first or the last or neither
abbrev sections_of : Bool → Bool → ℕ → List NewSection
sections_of first last i = expression_of first i ++ record { kind = 0x19; body = script_bytes (script_of first last i) } ∷ []

-- they have at most 200 bytes
body_len : (first last : Bool) (i : ℕ) → length (body_bytes Ffs2 (sections_of first last i)) ≤ 200
body_len true true i = omega arith
body_len true false i = omega arith
body_len false true i = omega arith
body_len false false i = omega arith

-- so no size field is too short for them
sections_short : (first last : Bool) (i : ℕ)
    → (list_any (is_section_too_long Ffs2) (sections_of first last i) || is_past_size Ffs2 (length (body_bytes Ffs2 (sections_of first last i)))) ≡ false
sections_short true true i = refl
sections_short true false i = refl
sections_short false true i = refl
sections_short false false i = refl

modules_short : (n k : ℕ) → list_any (is_file_too_long Ffs2) (map (module_of n) (downward k)) ≡ false
modules_short n zero = refl
modules_short n (suc k) =
    ap (λ b. b || list_any (is_file_too_long Ffs2) (map (module_of n) (downward k))) (sections_short (k == 0) (k + 1 == n) k) ∙ modules_short n k

module_len : (n i : ℕ) → length (file_bytes Ffs2 (module_of n i)) ≤ 224
module_len n i = omega (arith, length-file_with Ffs2 (module_of n i) (body_bytes Ffs2 (sections_of (i == 0) (i + 1 == n) i)) refl, body_len (i == 0) (i + 1 == n) i)

-- each module takes at most 232 bytes of the volume
modules_len : (n k from : ℕ) → length (laid 8 255 from (map (file_bytes Ffs2) (map (module_of n) (downward k)))) ≤ 232 * k
modules_len n zero from = omega arith
modules_len n (suc k) from =
    let text = file_bytes Ffs2 (module_of n k) in
    let g = gap 8 from in
    let behind = laid 8 255 (from + g + length text) (map (file_bytes Ffs2) (map (module_of n) (downward k))) in
    omega (arith, length-append (replicate g 255) (text ++ behind), length-append text behind, length-replicate {A = ℕ} g 255, module_len n k, modules_len n k (from + g + length text))

length-downward : (n : ℕ) → length (downward n) ≡ n
length-downward zero = refl
length-downward (suc n) = ap suc (length-downward n)

-- nothing stands against the generated volume
pub none_against : (n : ℕ) → n ≤ 4096 → volume_fault (plain Ffs2) None (generated_files n) 0x200000 ≡ None
none_against n most =
    let files = generated_files n in
    let count : length files ≡ n = length-map (downward n) (module_of n) ∙ length-downward n in
    let few : nat_lt 16384 (length files) ≡ false = grind (arith, nat_tests) in
    let len = modules_len n n 72 in
    let room : nat_lt 0x200000 (need Ffs2 72 files) ≡ false = grind (arith, nat_tests) in
    let full : BuildFault = NoRoom (min (need Ffs2 72 files) (2 ^ 64 - 1)) 0x200000 in
    ap (λ b. cond b (Some TooMany) (cond (list_any (is_file_too_long Ffs2) files) (Some Size) (cond (nat_lt 0x200000 (need Ffs2 72 files)) (Some full) None))) few
    ∙ ap (λ b. cond b (Some Size) (cond (nat_lt 0x200000 (need Ffs2 72 files)) (Some full) None)) (modules_short n n)
    ∙ ap (λ b. cond b (Some full) None) room

-- so memory alone is wanting
pub only_memory : {A : Type 0} (result : Result A BuildFault) (files : List NewFile) (len : ℕ) → volume_fault (plain Ffs2) None files len ≡ None
    → IfErr result (IsRefusal (plain Ffs2) None files len) → IfErr result (λ fault. fault ≡ Wanting)
only_memory (Ok volume) files len none refused = tt
only_memory (Err TooMany) files len none refused = absurd (let no : ◌≡◌ {A = Option BuildFault} None (Some TooMany) = sym none ∙ refused in cc)
only_memory (Err Size) files len none refused = absurd (let no : ◌≡◌ {A = Option BuildFault} None (Some Size) = sym none ∙ refused in cc)
only_memory (Err (NoRoom need have)) files len none refused = absurd (let no : ◌≡◌ {A = Option BuildFault} None (Some (NoRoom need have)) = sym none ∙ refused in cc)
only_memory (Err Wanting) files len none refused = refl
