-- One driver more in what is kept by the names of files.
use Rattle.std.proofs.Common.{◌≡◌, ℕ, Bool, true, false, cond, List, [], ◌∷◌, ◌++◌, Option, Some, None, is_some, refl, ap, ◌∙◌, if◌then◌else◌, filter, find}
use Rattle.pi_base.specs.{declared.guid.Guid.Guid, Guids.same_guid, GuidMap.value_of}
use Rattle.mod_catalog.specs.{declared.catalogue.Catalog.Catalog, Parts.module_name}
use Rattle.boot_model.specs.DxeChoice.{before_of, after_of, name_by}
use Rattle.dxe_core.specs.{declared.lists.NumberLists.NumberLists, declared.names.Names.Names, Lists.numbers_under, Lists.IsPushed}
use Rattle.dxe_core.specs.Names.{IsFirstOfName, NamesGrow, first_named}
use Rattle.dxe_core.specs.Order.{gives, name_asked}

-- what is found in front, or else the one behind
abbrev or_last : Option ℕ → Option ℕ → Option ℕ
or_last found last = if is_some found then found else last

found_step : (b : Bool) (x : ℕ) (found last both : Option ℕ) → or_last found last ≡ both → or_last (cond b (Some x) found) last ≡ cond b (Some x) both
found_step true x found last both h = refl
found_step false x found last both h = h

found_more : (test : ℕ → Bool) (xs : List ℕ) (n : ℕ) → or_last (find test xs) (if test n then Some n else None) ≡ find test (xs ++ n ∷ [])
found_more test [] n = refl
found_more test (x ∷ xs) n = found_step (test x) x (find test xs) (if test n then Some n else None) (find test (xs ++ n ∷ [])) (found_more test xs n)

kept_step : (b : Bool) (x : ℕ) (kept last both : List ℕ) → kept ++ last ≡ both → cond b (x ∷ kept) kept ++ last ≡ cond b (x ∷ both) both
kept_step true x kept last both h = ap (λ xs. x ∷ xs) h
kept_step false x kept last both h = h

filter_more : (test : ℕ → Bool) (xs : List ℕ) (n : ℕ) → filter test xs ++ (if test n then n ∷ [] else []) ≡ filter test (xs ++ n ∷ [])
filter_more test [] n = refl
filter_more test (x ∷ xs) n = kept_step (test x) x (filter test xs) (if test n then n ∷ [] else []) (filter test (xs ++ n ∷ [])) (filter_more test xs n)

-- those of some drivers that give a name, whatever name each gives
abbrev giving : (ℕ → Option Guid) → List ℕ → Guid → List ℕ
giving of drivers name = filter (λ number. gives name (of number)) drivers

giving_more : (of : ℕ → Option Guid) (drivers : List ℕ) (number : ℕ) (old new : NumberLists) (given : Option Guid) → given ≡ of number → IsPushed old given number new
    → ((name : Guid) → numbers_under old name ≡ giving of drivers name) → (name : Guid) → numbers_under new name ≡ giving of (drivers ++ number ∷ []) name
giving_more of drivers number old new given is pushed are name =
    pushed name ∙ ap (λ xs. xs ++ (if gives name given then number ∷ [] else [])) (are name)
    ∙ ap (λ g. giving of drivers name ++ (if gives name g then number ∷ [] else [])) is
    ∙ filter_more (λ n. gives name (of n)) drivers number

first_more : (catalog : Catalog) (drivers : List ℕ) (number : ℕ) (old new : List (Guid × ℕ)) → IsFirstOfName old (module_name catalog number) number new
    → ((name : Guid) → value_of old name ≡ first_named catalog drivers name) → (name : Guid) → value_of new name ≡ first_named catalog (drivers ++ number ∷ []) name
first_more catalog drivers number old new first are name =
    let last : Option ℕ = if same_guid (module_name catalog number) name then Some number else None in
    first name ∙ ap (λ found. or_last found last) (are name) ∙ found_more (λ n. same_guid (module_name catalog n) name) drivers number

pub names_more : (catalog : Catalog) (number : ℕ) (old new : Names) (before after asked : Option Guid) → before ≡ name_by before_of catalog number → after ≡ name_by after_of catalog number
    → asked ≡ name_asked catalog number → IsFirstOfName old.first (module_name catalog number) number new.first → IsPushed old.befores before number new.befores → IsPushed old.afters after number new.afters
    → IsPushed old.asking asked number new.asking → NamesGrow catalog old (number ∷ []) new
names_more catalog number old new before after asked b a k first befores afters asking drivers are = record {
  first_is = first_more catalog drivers number old.first new.first first are.first_is;
  befores_are = giving_more (name_by before_of catalog) drivers number old.befores new.befores before b befores are.befores_are;
  afters_are = giving_more (name_by after_of catalog) drivers number old.afters new.afters after a afters are.afters_are;
  asking_are = giving_more (name_asked catalog) drivers number old.asking new.asking asked k asking are.asking_are;
}
