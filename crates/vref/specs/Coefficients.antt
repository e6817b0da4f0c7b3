-- Document 01, "ESP32 line rules": a and b by Vref. In esp-hal: `characterize_using_vref` of calibration/line/esp32.rs, which cites
-- ESP-IDF's components/esp_adc/esp32/adc_cali_line_fitting.c, line 155.
use Rattle.std.specs.Prelude.{Bool, ◌&&◌, List, [], ◌∷◌, ℕ, ◌*◌, ◌/◌, leb, eqb}
use Rattle.terms.specs.Refusal.{by_number, unit_refusal}
use Rattle.terms.specs.Unit.{entry_of}
use Rattle.vref.specs.declared.coefficients.Coefficients.{Coefficients}

-- "Scales and offsets are the crate's four-entry tables", of which each unit has its own, with an entry for each attenuation
abbrev pub adc1_vref_scale : List ℕ
adc1_vref_scale = 57431 ∷ 76236 ∷ 105481 ∷ 196602 ∷ []

abbrev pub adc2_vref_scale : List ℕ
adc2_vref_scale = 57236 ∷ 76175 ∷ 105678 ∷ 197170 ∷ []

abbrev pub adc1_vref_offset : List ℕ
adc1_vref_offset = 75 ∷ 78 ∷ 107 ∷ 142 ∷ []

abbrev pub adc2_vref_offset : List ℕ
adc2_vref_offset = 63 ∷ 66 ∷ 89 ∷ 128 ∷ []

unfoldable pub vref_scale : ℕ → ℕ → ℕ
vref_scale unit atten = entry_of unit atten adc1_vref_scale adc2_vref_scale

unfoldable pub vref_offset : ℕ → ℕ → ℕ
vref_offset unit atten = entry_of unit atten adc1_vref_offset adc2_vref_offset

-- "a = vref × scale / 4096, b = offset"
abbrev pub vref_line : ℕ → ℕ → ℕ → Coefficients
vref_line unit atten vref = record { a = vref * vref_scale unit atten / 4096; b = vref_offset unit atten }

-- for a unit and an attenuation that there are; else zeros
unfoldable pub coefficients_for : ℕ → ℕ → ℕ → Coefficients
coefficients_for unit atten vref =
    by_number (unit_refusal unit atten) (vref_line unit atten vref) (record { a = 0; b = 0 })

-- document 02, #106: whether a and b are "exactly the a and b that its vref, unit and attenuation give". Vref's code gives at most 1205
unfoldable pub is_vref_line : ℕ → ℕ → ℕ → ℕ → ℕ → Bool
is_vref_line unit atten vref a b =
    leb unit 1
    && leb atten 3
    && leb vref 1205
    && eqb a (vref_line unit atten vref).a
    && eqb b (vref_line unit atten vref).b
