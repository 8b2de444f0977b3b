-- What a loop over a table keeps: one number more is two bytes more.
use Rattle.std.proofs.Common.{◌≡◌, ℕ, ◌+◌, ◌*◌, ◌/◌, ◌%◌, ◌<◌, ◌≤◌, List, [], ◌∷◌, ◌++◌, length, take, get_or}
use Rattle.std.proofs.Common.{refl, sym, ap, ◌∙◌, append_assoc, arith, length-set}
use Rattle.std.proofs.Math.ListN.{set}
use Rattle.std.proofs.lemmas.Grind.{take-set_at}
use Rattle.std.proofs.lemmas.List.{take_more, take_more_set}
use Rattle.requests.specs.Parts.{coded_table}

-- the bytes of one number
abbrev pair_of : ℕ → List ℕ
pair_of n = n % 256 ∷ n / 256 % 256 ∷ []

coded_table-append : (numbers more : List ℕ) → coded_table (numbers ++ more) ≡ coded_table numbers ++ coded_table more
coded_table-append [] more = refl
coded_table-append (n ∷ numbers) more = ap (λ bytes. n % 256 ∷ n / 256 % 256 ∷ bytes) (coded_table-append numbers more)

-- ## Numbers written to a space

pub one_more : (numbers : List ℕ) (i : ℕ) → i < length numbers
    → coded_table (take (i + 1) numbers)
    ≡ coded_table (take i numbers) ++ (get_or numbers i 0 % 256 ∷ get_or numbers i 0 / 256 % 256 ∷ [])
one_more numbers i within =
    ap coded_table (take_more numbers i 0 within) ∙ coded_table-append (take i numbers) (get_or numbers i 0 ∷ [])

pub two_more : (space : List ℕ) (i low high : ℕ) → 2 * i + 2 ≤ length space
    → take (2 * (i + 1)) (set (set space (2 * i) low) (2 * i + 1) high) ≡ take (2 * i) space ++ (low ∷ high ∷ [])
two_more space i low high fits =
    let first = set space (2 * i) low in
    let long : length first ≡ length space = length-set space (2 * i) low in
    take-set_at first (2 * i + 1) (2 * (i + 1)) high (omega arith) (omega arith)
    ∙ ap (λ bytes. bytes ++ (high ∷ [])) (take-set_at space (2 * i) (2 * i + 1) low refl (omega arith))
    ∙ append_assoc (take (2 * i) space) (low ∷ []) (high ∷ [])

-- ## Numbers read from bytes

one_put : (space : List ℕ) (i n : ℕ) → i < length space
    → coded_table (take (i + 1) (set space i n)) ≡ coded_table (take i space) ++ pair_of n
one_put space i n within =
    ap coded_table (take_more_set space i n within) ∙ coded_table-append (take i space) (n ∷ [])

two_taken : (bytes : List ℕ) (i : ℕ) → 2 * i + 2 ≤ length bytes
    → take (2 * (i + 1)) bytes ≡ take (2 * i) bytes ++ (get_or bytes (2 * i) 0 ∷ get_or bytes (2 * i + 1) 0 ∷ [])
two_taken bytes i fits =
    let low = get_or bytes (2 * i) 0 in
    let high = get_or bytes (2 * i + 1) 0 in
    let behind : 2 * (i + 1) ≡ 2 * i + 1 + 1 = omega arith in
    ap (λ k. take k bytes) behind
    ∙ take_more bytes (2 * i + 1) 0 (omega arith)
    ∙ ap (λ front. front ++ (high ∷ [])) (take_more bytes (2 * i) 0 (omega arith))
    ∙ append_assoc (take (2 * i) bytes) (low ∷ []) (high ∷ [])

same_pair : (n low high : ℕ) → low < 256 → high < 256 → n ≡ low + 256 * high → pair_of n ≡ low ∷ high ∷ []
same_pair n low high small_low small_high is =
    let first : n % 256 ≡ low = omega arith in
    let second : n / 256 % 256 ≡ high = omega arith in
    ap (λ byte. byte ∷ n / 256 % 256 ∷ []) first ∙ ap (λ byte. low ∷ byte ∷ []) second

pub one_read : (space bytes : List ℕ) (i n : ℕ) → i < length space → 2 * i + 2 ≤ length bytes → get_or bytes (2 * i) 0 < 256
    → get_or bytes (2 * i + 1) 0 < 256
    → n ≡ get_or bytes (2 * i) 0 + 256 * get_or bytes (2 * i + 1) 0
    → coded_table (take i space) ≡ take (2 * i) bytes
    → coded_table (take (i + 1) (set space i n)) ≡ take (2 * (i + 1)) bytes
one_read space bytes i n within fits small_low small_high is before =
    one_put space i n within
    ∙ ap (λ pair. coded_table (take i space) ++ pair)
    (same_pair n (get_or bytes (2 * i) 0) (get_or bytes (2 * i + 1) 0) small_low small_high is)
    ∙ ap (λ front. front ++ (get_or bytes (2 * i) 0 ∷ get_or bytes (2 * i + 1) 0 ∷ [])) before
    ∙ sym (two_taken bytes i fits)
