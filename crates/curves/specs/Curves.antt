-- Document 01, "S2, C6 and curves": "109 coefficients in ten tables", here the decimals, as esp-hal's `coeff_tables!` of
-- calibration/curve.rs has them: its tables in its order, each at 0, 2.5, 6 and 11 dB, the constant coefficient first. Above each
-- table: its name in esp-hal, and the ESP-IDF file, at its commit, that esp-hal cites for it.
use Rattle.std.specs.Prelude.{List, [], ◌∷◌, map, ℕ, get_or}
use Rattle.std.proofs.Math.Option.{Option, none, some}
use Rattle.curves.specs.Decimal.{Decimal, plus, minus}

pub record Table : Type 0 where
  pub db0 : List Decimal
  pub db2p5 : List Decimal
  pub db6 : List Decimal
  pub db11 : List Decimal

-- "attenuation is the index 0, 1, 2, 3 for 0, 2.5, 6, 11 dB"
abbrev pub by_atten : Table → List (List Decimal)
by_atten t = t.db0 ∷ t.db2p5 ∷ t.db6 ∷ t.db11 ∷ []

abbrev pub curve_at : Table → ℕ → List Decimal
curve_at t atten = get_or (by_atten t) atten []

-- esp32c3, CURVES_COEFFS1: 903af13e8, components/esp_adc/esp32c3/curve_fitting_coefficients.c
abbrev pub c3_coeffs1 : Table
c3_coeffs1 =
    record {
      db0 = minus 225966470500043 15 ∷ minus 7265418501948 16 ∷ plus 109410402681 16 ∷ [];
      db2p5 = plus 4229623392600516 16 ∷ minus 731527490903 16 ∷ plus 88166562521 16 ∷ [];
      db6 = minus 1017859239236435 15 ∷ minus 97159265299153 16 ∷ plus 149794028038 16 ∷ [];
      db11 = minus 14912262772850453 16 ∷ minus 228549975564099 16 ∷ plus 356391935717 16 ∷ minus 179964582 16 ∷ plus 42046 16 ∷ [];
    }

-- esp32c5, CURVES_COEFFS1: c602e55, components/esp_adc/esp32c5/curve_fitting_coefficients.c
abbrev pub c5_coeffs1 : Table
c5_coeffs1 =
    record {
      db0 = minus 2941017829027464 16 ∷ plus 7368674918527 16 ∷ plus 0 1 ∷ [];
      db2p5 = minus 3224276125615327 16 ∷ plus 5325658467636 16 ∷ plus 0 1 ∷ [];
      db6 = minus 3307554632960901 16 ∷ plus 409244304226 15 ∷ plus 0 1 ∷ [];
      db11 = plus 1463642578413965 15 ∷ minus 3349642363147 15 ∷ plus 11676836451 16 ∷ [];
    }

-- esp32c6, CURVES_COEFFS1: 027613140, components/esp_adc/esp32c6/curve_fitting_coefficients.c, lines 29 to 35
abbrev pub c6_coeffs1 : Table
c6_coeffs1 =
    record {
      db0 = minus 487166399931449 16 ∷ plus 6436483033201 16 ∷ plus 30410131806 16 ∷ [];
      db2p5 = minus 8665498165817785 16 ∷ plus 15239070452946 16 ∷ plus 13818878844 16 ∷ [];
      db6 = minus 12277821756674387 16 ∷ plus 22275554717885 16 ∷ plus 5924302667 16 ∷ [];
      db11 = minus 3801417550380255 16 ∷ minus 6020352420772 16 ∷ plus 12442478488 16 ∷ [];
    }

-- esp32c61, CURVES_COEFFS1: 1e76669a8, components/esp_adc/esp32c61/curve_fitting_coefficients.c
abbrev pub c61_coeffs1 : Table
c61_coeffs1 =
    record {
      db0 = minus 8668885650149671 16 ∷ plus 15630376830615 16 ∷ [];
      db2p5 = minus 1090569589734153 16 ∷ plus 13859487941542 16 ∷ [];
      db6 = minus 14231790752153335 16 ∷ plus 122016745867 14 ∷ [];
      db11 = minus 13204544579940347 16 ∷ minus 11762579610906 16 ∷ plus 7639928529 16 ∷ [];
    }

-- esp32c6, CURVES_COEFFS1_V2: 027613140, components/esp_adc/esp32c6/curve_fitting_coefficients.c, lines 36 to 42
abbrev pub c6_coeffs1_v2 : Table
c6_coeffs1_v2 =
    record {
      db0 = [];
      db2p5 = [];
      db6 = minus 12217864764388775 16 ∷ minus 1954123107752 16 ∷ plus 6409679727 16 ∷ [];
      db11 = minus 3915910437042445 16 ∷ minus 31536470857564 16 ∷ plus 12493873014 16 ∷ [];
    }

-- esp32h2, CURVES_COEFFS1: 465b159cd, components/esp_adc/esp32h2/curve_fitting_coefficients.c
abbrev pub h2_coeffs1 : Table
h2_coeffs1 =
    record {
      db0 = minus 5081991760658888 16 ∷ plus 7858995319 16 ∷ plus 0 0 ∷ [];
      db2p5 = minus 8359230818901277 16 ∷ plus 9025419089 16 ∷ plus 0 0 ∷ [];
      db6 = minus 1165668771581976 15 ∷ plus 8294679249 16 ∷ plus 0 0 ∷ [];
      db11 = minus 3637329628677273 16 ∷ minus 196072597389 16 ∷ plus 7871689227 16 ∷ [];
    }

-- esp32p4, CURVES_COEFFS1: 08e0d30a7, components/esp_adc/esp32p4/curve_fitting_coefficients.c
abbrev pub p4_coeffs1 : Table
p4_coeffs1 =
    record {
      db0 = minus 7170501832480995 16 ∷ plus 10598497992115 16 ∷ [];
      db2p5 = minus 9960085535084866 16 ∷ plus 15840076608145 16 ∷ [];
      db6 = minus 14711053224678996 16 ∷ plus 1594266424857 17 ∷ [];
      db11 = minus 28811493455181565 16 ∷ plus 10082311568625 16 ∷ [];
    }

-- esp32p4, CURVES_COEFFS2: 08e0d30a7, components/esp_adc/esp32p4/curve_fitting_coefficients.c
abbrev pub p4_coeffs2 : Table
p4_coeffs2 =
    record {
      db0 = minus 4900967548489932 16 ∷ plus 5037402667913 16 ∷ [];
      db2p5 = minus 7296214814536025 16 ∷ plus 11021577596635 16 ∷ [];
      db6 = minus 10991620450220592 16 ∷ plus 11623930881896 16 ∷ [];
      db11 = minus 2442140102462673 15 ∷ plus 9458501263393 16 ∷ [];
    }

-- esp32s3, CURVES_COEFFS1: 903af13e8, components/esp_adc/esp32s3/curve_fitting_coefficients.c
abbrev pub s3_coeffs1 : Table
s3_coeffs1 =
    record {
      db0 = minus 27856531419538344 16 ∷ minus 50871540569528 16 ∷ plus 97982495890 16 ∷ [];
      db2p5 = minus 29831022915028695 16 ∷ minus 49393185868806 16 ∷ plus 101379430548 16 ∷ [];
      db6 = minus 23285545746296417 16 ∷ minus 147640181047414 16 ∷ plus 208385525314 16 ∷ [];
      db11 = minus 644403418269478 15 ∷ minus 644334888647536 16 ∷ plus 1297891447611 16 ∷ minus 707697180 16 ∷ plus 135150 16 ∷ [];
    }

-- esp32s3, CURVES_COEFFS2: 903af13e8, components/esp_adc/esp32s3/curve_fitting_coefficients.c
abbrev pub s3_coeffs2 : Table
s3_coeffs2 =
    record {
      db0 = minus 25668651654328927 16 ∷ plus 1353548869615 16 ∷ plus 36615265189 16 ∷ [];
      db2p5 = minus 23690184690298404 16 ∷ minus 66319894226185 16 ∷ plus 118964995959 16 ∷ [];
      db6 = minus 9452499397020617 16 ∷ minus 200996773954387 16 ∷ plus 259011467956 17 ∷ [];
      db11 = plus 12247719764336924 16 ∷ minus 755717904943462 16 ∷ plus 1478791187119 16 ∷ minus 796725280 16 ∷ plus 150380 16 ∷ [];
    }

-- the tables in esp-hal's order
abbrev pub tables : List Table
tables =
    c3_coeffs1 ∷ c5_coeffs1 ∷ c6_coeffs1 ∷ c61_coeffs1 ∷ c6_coeffs1_v2
    ∷ h2_coeffs1 ∷ p4_coeffs1 ∷ p4_coeffs2 ∷ s3_coeffs1 ∷ s3_coeffs2 ∷ []

-- table t of them; there is none past the last
abbrev pub numbered : ℕ → Option Table
numbered t = get_or (map some tables) t none

-- the curve that a table has at an attenuation, where there is a table
abbrev pub curve_in : Option Table → ℕ → List Decimal
curve_in none atten = []
curve_in (some t) atten = curve_at t atten
