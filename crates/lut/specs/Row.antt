-- Document 01, "ESP32 line rules": the lookup's tables, those beside `calculate_voltage_lut` of esp-hal's calibration/line/esp32.rs;
-- its source is ESP-IDF's components/esp_adc/esp32/adc_cali_line_fitting.c, from line 155 on.
use Rattle.std.specs.Prelude.{List, [], ◌∷◌, ◌++◌, ℕ, get_or}
use Rattle.terms.specs.Unit.{entry_of}
use Rattle.lut.specs.declared.row.Row.{Row}

-- esp-hal's four tables: millivolts at the counts 2880, 2944, .., 64 apart, at a Vref of 1000 (low) and of 1200 (high)
abbrev pub lut_adc1_low : List ℕ
lut_adc1_low =
    2240 ∷ 2297 ∷ 2352 ∷ 2405 ∷ 2457 ∷ 2512 ∷ 2564 ∷ 2616 ∷ 2664 ∷ 2709
    ∷ 2754 ∷ 2795 ∷ 2832 ∷ 2868 ∷ 2903 ∷ 2937 ∷ 2969 ∷ 3000 ∷ 3030 ∷ 3060 ∷ []

abbrev pub lut_adc1_high : List ℕ
lut_adc1_high =
    2667 ∷ 2706 ∷ 2745 ∷ 2780 ∷ 2813 ∷ 2844 ∷ 2873 ∷ 2901 ∷ 2928 ∷ 2956
    ∷ 2982 ∷ 3006 ∷ 3032 ∷ 3059 ∷ 3084 ∷ 3110 ∷ 3135 ∷ 3160 ∷ 3184 ∷ 3209 ∷ []

abbrev pub lut_adc2_low : List ℕ
lut_adc2_low =
    2238 ∷ 2293 ∷ 2347 ∷ 2399 ∷ 2451 ∷ 2507 ∷ 2561 ∷ 2613 ∷ 2662 ∷ 2710
    ∷ 2754 ∷ 2792 ∷ 2831 ∷ 2869 ∷ 2904 ∷ 2937 ∷ 2968 ∷ 2999 ∷ 3029 ∷ 3059 ∷ []

abbrev pub lut_adc2_high : List ℕ
lut_adc2_high =
    2657 ∷ 2698 ∷ 2738 ∷ 2774 ∷ 2807 ∷ 2838 ∷ 2867 ∷ 2894 ∷ 2921 ∷ 2946
    ∷ 2971 ∷ 2996 ∷ 3020 ∷ 3043 ∷ 3067 ∷ 3092 ∷ 3116 ∷ 3139 ∷ 3162 ∷ 3185 ∷ []

-- entry i of a unit's low and high table
unfoldable pub low_at : ℕ → ℕ → ℕ
low_at unit i = entry_of unit i lut_adc1_low lut_adc2_low

unfoldable pub high_at : ℕ → ℕ → ℕ
high_at unit i = entry_of unit i lut_adc1_high lut_adc2_high

-- a low and a high entry: unit 0's tables with unit 1's behind them, and zeros past those
abbrev pub row_of : ℕ → Row
row_of k = record { 0 = get_or (lut_adc1_low ++ lut_adc2_low) k 0; 1 = get_or (lut_adc1_high ++ lut_adc2_high) k 0 }
