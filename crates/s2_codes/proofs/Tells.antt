-- What the S2's codes tell with their refusals: 12 is of no record, so that those of a record are the map's; and 5 of the table tells 0 and 0.
-- Assumes nothing.
use mathlib.Core.Path.{◌≡◌, refl, sym, ◌∙◌, ap, subst}
use mathlib.Core.Bool.{true, true≢false}
use mathlib.Core.List.{List}
use Prim.Native.Nat.{ℕ}
use Rattle.terms.specs.declared.chip.MapChip.TheVariants.{S2}
use Rattle.terms.specs.declared.refusal.Refusal.{Refusal}
use Rattle.terms.specs.Exactly.{Exactly}
use Rattle.terms.specs.Refusal.{plain, refusal_of}
use Rattle.terms.proofs.Exactly.{case}
use Rattle.terms.proofs.Order.{zero_or}
use Rattle.maps.specs.Tells.{ToldWhen}
use Rattle.maps.specs.Told.{of_record, told_of}
use Rattle.maps.specs.When.{MapWhen}
use Rattle.maps.proofs.Tells.{told_exactly}
use Rattle.maps.proofs.Told.{told_number}
use Rattle.inputs.proofs.Tells.{decoding_of_map}
use Rattle.s2_readings.specs.declared.tag.RtcCalibParam.{RtcCalibParam}
use Rattle.s2_readings.specs.Chain.{chain_refusal}
use Rattle.s2_readings.specs.Tag.{tag_of}
use Rattle.s2_readings.specs.When.{ChainWhen}
use Rattle.s2_readings.proofs.Links.{chain_exactly}
use Rattle.s2_codes.specs.Code.{version_refusal, code_told, code_of}
use Rattle.s2_codes.specs.When.{VersionWhen, before, bad_version, good_version, CodeWhen, before_table, of_table}
use Rattle.s2_codes.proofs.Codes.{code_before, code_table}
use Rattle.s2_codes.proofs.Exactly.{version_exactly}
use Rattle.s2_codes.proofs.Says.{code_says}

module _ (lengths dump map : List ℕ) (unit atten : ℕ) where
  version_of_map : (n : ℕ) → VersionWhen lengths dump map unit atten n → of_record n ≡ true → MapWhen lengths S2 map n
  version_of_map n (before k some) t = decoding_of_map lengths S2 dump map unit atten n k t
  version_of_map n (bad_version k v) t = absurd (true≢false (sym t))
  version_of_map n (good_version k v) t = absurd (true≢false (sym t))

  abbrev first : Refusal
  first = told_of lengths S2 map (version_refusal lengths dump map unit atten)

  first_told : Exactly first (ToldWhen lengths S2 map (VersionWhen lengths dump map unit atten))
  first_told = told_exactly lengths map S2 (version_exactly lengths dump map unit atten) version_of_map

  -- `rtc_calib_init_code` and `rtc_calib_cal_code`, by the parameter
  module _ (param : RtcCalibParam) where
    abbrev whole : Refusal
    whole = code_told lengths dump map unit atten param

    abbrev table : Exactly (chain_refusal lengths (tag_of 2 unit atten param)) (ChainWhen lengths (tag_of 2 unit atten param))
    table = chain_exactly lengths (tag_of 2 unit atten param)

    gives : (why : Refusal) → CodeWhen lengths dump map unit atten param why → whole ≡ why
    gives why (before_table w some) = code_before lengths dump map unit atten param (sym ((first_told why).1 w)) some
    gives _ (of_table {n} v w) =
        code_table lengths dump map unit atten param ((version_exactly lengths dump map unit atten 0).1 v) ∙ ap plain ((table n).1 w)

    given : CodeWhen lengths dump map unit atten param whole
    given =
        zero_or first.number
        (λ e.
        (let z : version_refusal lengths dump map unit atten ≡ 0 = sym (told_number lengths map S2 _) ∙ e in
        rw (code_table lengths dump map unit atten param z)
        (of_table ((version_exactly lengths dump map unit atten 0).0 z) (case table))))
        (λ some.
        rw (code_before lengths dump map unit atten param refl some) (before_table ((first_told first).0 refl) some))

    pub code_told_lem : Exactly (refusal_of (code_of lengths dump map unit atten param)) (CodeWhen lengths dump map unit atten param)
    code_told_lem =
        rw (code_says lengths dump map unit atten param).refusal_is
        (λ why. (λ e. subst (CodeWhen lengths dump map unit atten param) e given, gives why))
