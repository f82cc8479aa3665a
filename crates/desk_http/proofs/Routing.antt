-- The routes of a target, by the router and in words.
use Rattle.std.proofs.Common.{◌≡◌, ◌≢◌, ℕ, zero, suc, ◌+◌, ◌<◌, ◌≤◌, List, [], ◌∷◌, ◌++◌, length}
use Rattle.std.proofs.Common.{drop, take, Option, Some, None, Bool, true, false, cond, refl, sym}
use Rattle.std.proofs.Common.{ap, ◌∙◌, arith, nat_eq, ◌==◌, subst, slice_index_or, Fits, w8}
use Rattle.std.specs.Prelude.{option_map, codes, ◌&&◌, nat_lt, nat_le}
use Rattle.std.specs.List.{starts_with, list_all}
use Rattle.std.specs.Char.{is_ascii_digit}
use Rattle.std.specs.Str.Parse.{digits_value}
use Rattle.std.specs.Cmp.Lexicographic.{pointwise}
use Rattle.std.proofs.lemmas.Bool.Decides.{nat_tests}
use Rattle.matchit.specs.Rows.{Rows, prepend, param_token}
use Rattle.matchit.specs.Seek.{or_else, first, seek}
use Rattle.matchit.specs.Level.{IsText}
use Rattle.matchit.specs.Router.{RouteOf, map_key}
use Rattle.matchit.proofs.SeekLemmas.{first-prefix, seek-empty}
use Rattle.matchit.proofs.RenameLemmas.{seek-rename}
use Rattle.desk_http.specs.declared.target.ImportKind.{ImportKind}
use Rattle.desk_http.specs.declared.target.ImportKind.TheVariants.{Receipts}
use Rattle.desk_http.specs.declared.target.ReportName.{ReportName}
use Rattle.desk_http.specs.declared.target.ReportName.TheVariants.{Ledger}
use Rattle.desk_http.specs.declared.route.Route.{Route}
use Rattle.desk_http.specs.declared.route.Route.TheVariants.{ImportRoute, ReportRoute, RunRoute}
use Rattle.desk_http.specs.Targets.{Resource, Run, Report, Import, ◌then◌, where_it, place_in}
use Rattle.desk_http.specs.Targets.{cut_at, kind_of, name_of, number_of, is_document, file_resource}
use Rattle.desk_http.specs.Targets.{import_resource, report_resource, run_resource, resource_of}
use Rattle.word_core.specs.Day.{day_of}
use Rattle.desk_http.proofs.Days.{no_slash}
use Rattle.desk_http.specs.Routes.{all_routes, route_of, import_row, report_row, run_row}
use Rattle.desk_http.proofs.Finding.{lit, parted, joined, Bytes, rest_of, last_of, param_mid, param_end}

-- ---- the table as three tables

import_rows : Rows
import_rows = (param_token ∷ 47 ∷ param_token ∷ 47 ∷ param_token ∷ [], 0) ∷ []

report_rows : Rows
report_rows = (param_token ∷ 47 ∷ param_token ∷ [], 1) ∷ []

run_rows : Rows
run_rows = ([], 2) ∷ []

unfoldable plain : Rows
unfolding import_rows report_rows run_rows
plain =
    prepend (codes "/import/") import_rows ++ prepend (codes "/report/") report_rows ++ prepend (codes "/run") run_rows

abbrev routes : ℕ → RouteOf Route
routes zero = import_row
routes (suc zero) = report_row
routes (suc (suc n)) = run_row

text : (w : List ℕ) → list_all (λ b. nat_lt b 256) w ≡ true → IsText w
text [] e = tt
text (b ∷ w) e = by (nat_lt b 256) refl e (text w)
  where
    by : (d : Bool) → nat_lt b 256 ≡ d → (d && list_all (λ b. nat_lt b 256) w) ≡ true
        → (list_all (λ b. nat_lt b 256) w ≡ true → IsText w) → (b < 256) × IsText w
    by false q e' ih = absurd (cc)
    by true q e' ih = (grind (arith, nat_tests), ih e')

in_three : (t : List ℕ) → first plain t
    ≡ or_else (cond (starts_with nat_eq t (codes "/import/")) (first import_rows (drop 8 t)) None)
    (or_else (cond (starts_with nat_eq t (codes "/report/")) (first report_rows (drop 8 t)) None)
    (cond (starts_with nat_eq t (codes "/run")) (first run_rows (drop 4 t)) None))
unfolding plain import_rows report_rows run_rows
in_three t =
    let later : Rows = prepend (codes "eport/") report_rows ++ prepend (codes "un") run_rows in
    let more : (p : List ℕ) → first later p
    ≡ or_else (first (prepend (codes "eport/") report_rows) p) (first (prepend (codes "un") run_rows) p) =
    λ p. parted 101 (codes "port/") report_rows 117 (codes "n") run_rows p (omega arith) (omega arith)
    (λ e. omega (arith, e)) in
    joined (codes "/") (prepend (codes "import/") import_rows) (prepend (codes "r") later) t (text (codes "/") refl)
    (λ p. parted 105 (codes "mport/") import_rows 114 [] later p (omega arith) (omega arith) (λ e. omega (arith, e)))
    ∙ ap (or_else (first (prepend (codes "/import/") import_rows) t))
    (joined (codes "/r") (prepend (codes "eport/") report_rows) (prepend (codes "un") run_rows) t
    (text (codes "/r") refl) more)
    ∙ ap (λ v.
    or_else v (or_else (first (prepend (codes "/report/") report_rows) t) (first (prepend (codes "/run") run_rows) t)))
    (first-prefix (codes "/import/") import_rows t (text (codes "/import/") refl))
    ∙ ap (λ v. or_else (cond (starts_with nat_eq t (codes "/import/")) (first import_rows (drop 8 t)) None)
    (or_else v (first (prepend (codes "/run") run_rows) t)))
    (first-prefix (codes "/report/") report_rows t (text (codes "/report/") refl))
    ∙ ap (λ v. or_else (cond (starts_with nat_eq t (codes "/import/")) (first import_rows (drop 8 t)) None)
    (or_else (cond (starts_with nat_eq t (codes "/report/")) (first report_rows (drop 8 t)) None) v))
    (first-prefix (codes "/run") run_rows t (text (codes "/run") refl))

-- ---- a path begins with one of them

apart : (c w v t : List ℕ) (x y : ℕ) → x ≢ y → starts_with nat_eq t (c ++ x ∷ w) ≡ true
    → starts_with nat_eq t (c ++ y ∷ v) ≡ false
apart [] w v [] x y n e = absurd (cc)
apart [] w v (z ∷ t) x y n e = by (nat_eq x z) refl e
  where
    by : (d : Bool) → nat_eq x z ≡ d → (d && pointwise nat_eq w (take (length w) t)) ≡ true
        → (nat_eq y z && pointwise nat_eq v (take (length v) t)) ≡ false
    by false q e' = absurd (cc)
    by true q e' =
        let same : x ≡ z = grind (arith, nat_tests) in
        let off : nat_eq y z ≡ false = (let other : y ≢ z = λ r. n (same ∙ sym r) in grind (arith, nat_tests)) in
        ap (λ d. d && pointwise nat_eq v (take (length v) t)) off
apart (a ∷ c) w v [] x y n e = absurd (cc)
apart (a ∷ c) w v (z ∷ t) x y n e = by (nat_eq a z) e (apart c w v t x y n)
  where
    by : (d : Bool) → (d && pointwise nat_eq (c ++ x ∷ w) (take (length (c ++ x ∷ w)) t)) ≡ true
        → (starts_with nat_eq t (c ++ x ∷ w) ≡ true → starts_with nat_eq t (c ++ y ∷ v) ≡ false)
        → (d && pointwise nat_eq (c ++ y ∷ v) (take (length (c ++ y ∷ v)) t)) ≡ false
    by false e' ih = refl
    by true e' ih = ih e'

long : (w t : List ℕ) → starts_with nat_eq t w ≡ true → length w ≤ length t
long [] t e = omega arith
long (a ∷ w) [] e = absurd (cc)
long (a ∷ w) (z ∷ t) e = by (nat_eq a z) e (long w t)
  where
    by : (d : Bool) → (d && pointwise nat_eq w (take (length w) t)) ≡ true
        → (starts_with nat_eq t w ≡ true → length w ≤ length t) → length (a ∷ w) ≤ length (z ∷ t)
    by false e' ih = absurd (cc)
    by true e' ih = let h = ih e' in omega (arith, h)

-- ---- what the router refuses names nothing

abbrev FoundAs : ℕ → Option ℕ → Option Resource → Type 0
FoundAs k None resource = resource ≡ None
FoundAs k (Some j) resource = j ≡ k

fewer : (k : ℕ) (o : Option ℕ) (resource : Option Resource) → FoundAs k o resource → FoundAs k o None
fewer k None resource h = refl
fewer k (Some j) resource h = h

bytes_drop : (n : ℕ) (s : List ℕ) → Bytes s → Bytes (drop n s)
bytes_drop zero s h = h
bytes_drop (suc n) [] h = h
bytes_drop (suc n) (b ∷ s) h = bytes_drop n s h.1

no_all : (f : ℕ → Bool) (s : List ℕ) (i : ℕ) → f 47 ≡ false → place_in 47 s ≡ Some i → list_all f s ≡ false
unfolding place_in
no_all f [] i n e = absurd (cc)
no_all f (b ∷ s) i n e = by (b == 47) refl (place_in 47 s) refl e (no_all f s)
  where
    also : (c : Bool) → (c && false) ≡ false
    also true = refl
    also false = refl

    by : (c : Bool) → (b == 47) ≡ c → (o : Option ℕ) → place_in 47 s ≡ o
        → cond c (Some 0) (option_map (λ n. n + 1) o) ≡ Some i
        → ((j : ℕ) → f 47 ≡ false → place_in 47 s ≡ Some j → list_all f s ≡ false) → list_all f (b ∷ s) ≡ false
    by true q o r e' ih =
        let is : b ≡ 47 = grind (arith, nat_tests) in
        ap (λ v. f v && list_all f s) is ∙ ap (λ v. v && list_all f s) n
    by false q None r e' ih = absurd (cc)
    by false q (Some j) r e' ih = ap (λ v. f b && v) (ih j n r) ∙ also (f b)

last_found : (kind : ImportKind) (document s : List ℕ)
    → FoundAs 0 (last_of 0 s (place_in 47 s)) (day_of s then λ day. Some (Import false kind document day))
unfolding place_in
last_found kind document [] = refl
last_found kind document (b ∷ s) = by (place_in 47 (b ∷ s)) refl
  where
    by : (o : Option ℕ) → place_in 47 (b ∷ s) ≡ o
        → FoundAs 0 (last_of 0 (b ∷ s) o) (day_of (b ∷ s) then λ day. Some (Import false kind document day))
    by None e = refl
    by (Some i) e = ap (λ o. o then λ day. Some (Import false kind document day)) (no_slash (b ∷ s) i e)

file_found : (kind : ImportKind) (s : List ℕ) → Bytes s
    → FoundAs 0 (first ((param_token ∷ 47 ∷ param_token ∷ [], 0) ∷ []) s) (file_resource false kind s)
file_found kind s h =
    subst (λ o. FoundAs 0 o (file_resource false kind s)) (sym (param_mid (param_token ∷ []) 0 s h)) (by (place_in 47 s) refl)
  where
    on : List ℕ × List ℕ → Option Resource
    on a = where_it is_document a.0 then λ document. day_of a.1 then λ day. Some (Import false kind document day)

    by : (o : Option ℕ) → place_in 47 s ≡ o → FoundAs 0 (rest_of ((param_token ∷ [], 0) ∷ []) s o) (cut_at s o then on)
    by None e = refl
    by (Some zero) e = refl
    by (Some (suc i)) e =
        let r = drop (suc i + 1) s in
        let d = take (suc i) s in
        subst (λ o. FoundAs 0 o (on (d, r))) (sym (param_end 0 r (bytes_drop (suc i + 1) s h)))
        (late (is_document d) (last_of 0 r (place_in 47 r)) d r (last_found kind d r))
      where
        late : (c : Bool) (o : Option ℕ) (d r : List ℕ) → FoundAs 0 o (day_of r then λ day. Some (Import false kind d day))
            → FoundAs 0 o (cond c (Some d) None then λ document. day_of r then λ day. Some (Import false kind document day))
        late true o d r k = k
        late false o d r k = fewer 0 o _ k

import_found : (s : List ℕ) → Bytes s → FoundAs 0 (first import_rows s) (import_resource false s)
unfolding import_rows
import_found s h =
    subst (λ o. FoundAs 0 o (import_resource false s)) (sym (param_mid (param_token ∷ 47 ∷ param_token ∷ []) 0 s h))
    (by (place_in 47 s) refl)
  where
    rows : Rows
    rows = (param_token ∷ 47 ∷ param_token ∷ [], 0) ∷ []

    on : List ℕ × List ℕ → Option Resource
    on a = kind_of a.0 then λ kind. file_resource false kind a.1

    late : (k : Option ImportKind) (r : List ℕ) → Bytes r
        → FoundAs 0 (first rows r) (k then λ kind. file_resource false kind r)
    late None r b = fewer 0 (first rows r) (file_resource false Receipts r) (file_found Receipts r b)
    late (Some kind) r b = file_found kind r b

    by : (o : Option ℕ) → place_in 47 s ≡ o → FoundAs 0 (rest_of rows s o) (cut_at s o then on)
    by None e = refl
    by (Some zero) e = refl
    by (Some (suc i)) e = late (kind_of (take (suc i) s)) (drop (suc i + 1) s) (bytes_drop (suc i + 1) s h)

number_found : (name : ReportName) (s : List ℕ)
    → FoundAs 1 (last_of 1 s (place_in 47 s)) (number_of s then λ n. Some (Report name n))
unfolding place_in
number_found name [] = refl
number_found name (b ∷ s) = by (place_in 47 (b ∷ s)) refl
  where
    never : (c d : Bool) → (c && d && false) ≡ false
    never true true = refl
    never true false = refl
    never false true = refl
    never false false = refl

    by : (o : Option ℕ) → place_in 47 (b ∷ s) ≡ o
        → FoundAs 1 (last_of 1 (b ∷ s) o) (number_of (b ∷ s) then λ n. Some (Report name n))
    by None e = refl
    by (Some i) e =
        let c = nat_lt 0 (length (b ∷ s)) in
        let d = nat_le (length (b ∷ s)) 19 in
        ap (λ v. cond v (Some (digits_value 10 (b ∷ s))) None then λ n. Some (Report name n))
        (ap (λ v. c && d && v) (no_all is_ascii_digit (b ∷ s) i refl e) ∙ never c d)

report_found : (s : List ℕ) → Bytes s → FoundAs 1 (first report_rows s) (report_resource s)
unfolding report_rows
report_found s h =
    subst (λ o. FoundAs 1 o (report_resource s)) (sym (param_mid (param_token ∷ []) 1 s h)) (by (place_in 47 s) refl)
  where
    rows : Rows
    rows = (param_token ∷ [], 1) ∷ []

    on : List ℕ × List ℕ → Option Resource
    on a = name_of a.0 then λ name. number_of a.1 then λ number. Some (Report name number)

    some : (name : ReportName) (r : List ℕ) → Bytes r
        → FoundAs 1 (first rows r) (number_of r then λ number. Some (Report name number))
    some name r b =
        subst (λ o. FoundAs 1 o (number_of r then λ number. Some (Report name number))) (sym (param_end 1 r b))
        (number_found name r)

    late : (k : Option ReportName) (r : List ℕ) → Bytes r
        → FoundAs 1 (first rows r) (k then λ name. number_of r then λ number. Some (Report name number))
    late None r b = fewer 1 (first rows r) _ (some Ledger r b)
    late (Some name) r b = some name r b

    by : (o : Option ℕ) → place_in 47 s ≡ o → FoundAs 1 (rest_of rows s o) (cut_at s o then on)
    by None e = refl
    by (Some zero) e = refl
    by (Some (suc i)) e = late (name_of (take (suc i) s)) (drop (suc i + 1) s) (bytes_drop (suc i + 1) s h)

-- ---- which route, by its number

abbrev ByNumber : List ℕ → Option ℕ → Option Resource → Type 0
ByNumber t None resource = resource ≡ None
ByNumber t (Some zero) resource = (8 ≤ length t) × (resource ≡ import_resource false (drop 8 t))
ByNumber t (Some (suc zero)) resource = (8 ≤ length t) × (resource ≡ report_resource (drop 8 t))
ByNumber t (Some (suc (suc n))) resource = resource ≡ Some Run

abbrev run_at : List ℕ → Option ℕ
run_at [] = Some 2
run_at (b ∷ p) = None

run_first : (r : List ℕ) → first run_rows r ≡ run_at r
unfolding run_rows seek
run_first [] = refl
run_first (b ∷ p) = lit (([], 2) ∷ []) b p refl refl ∙ seek-empty 0 p

numbered : (t : List ℕ) → Bytes t → ByNumber t (first plain t) (resource_of t)
numbered t h =
    subst (λ o. ByNumber t o (resource_of t)) (sym (in_three t))
    (by (starts_with nat_eq t (codes "/import/")) refl (starts_with nat_eq t (codes "/report/")) refl
    (starts_with nat_eq t (codes "/run")) refl)
  where
    ir : ◌≢◌ {A = ℕ} 105 114
    ir e = omega (arith, e)

    eu : ◌≢◌ {A = ℕ} 101 117
    eu e = omega (arith, e)

    imported : (o : Option ℕ) → 8 ≤ length t → FoundAs 0 o (import_resource false (drop 8 t))
        → ByNumber t (or_else o None) (import_resource false (drop 8 t))
    imported None l k = k
    imported (Some j) l k = subst (λ v. ByNumber t (Some v) (import_resource false (drop 8 t))) (sym k) (l, refl)

    reported : (o : Option ℕ) → 8 ≤ length t → FoundAs 1 o (report_resource (drop 8 t))
        → ByNumber t (or_else o None) (report_resource (drop 8 t))
    reported None l k = k
    reported (Some j) l k = subst (λ v. ByNumber t (Some v) (report_resource (drop 8 t))) (sym k) (l, refl)

    ran : (r : List ℕ) → ByNumber t (run_at r) (run_resource r)
    ran [] = refl
    ran (b ∷ p) = refl

    by : (c : Bool) → starts_with nat_eq t (codes "/import/") ≡ c → (d : Bool)
        → starts_with nat_eq t (codes "/report/") ≡ d → (f : Bool) → starts_with nat_eq t (codes "/run") ≡ f
        → ByNumber t (or_else (cond c (first import_rows (drop 8 t)) None)
        (or_else (cond d (first report_rows (drop 8 t)) None) (cond f (first run_rows (drop 4 t)) None)))
        (cond c (import_resource false (drop 8 t))
        (cond d (report_resource (drop 8 t)) (cond f (run_resource (drop 4 t)) None)))
    by true e true q f r =
        let no : starts_with nat_eq t (codes "/report/") ≡ false =
        apart (codes "/") (codes "mport/") (codes "eport/") t 105 114 ir e in
        absurd (cc)
    by true e false q true r =
        let no : starts_with nat_eq t (codes "/run") ≡ false =
        apart (codes "/") (codes "mport/") (codes "un") t 105 114 ir e in
        absurd (cc)
    by true e false q false r =
        imported (first import_rows (drop 8 t)) (long (codes "/import/") t e)
        (import_found (drop 8 t) (bytes_drop 8 t h))
    by false e true q true r =
        let no : starts_with nat_eq t (codes "/run") ≡ false =
        apart (codes "/r") (codes "port/") (codes "n") t 101 117 eu q in
        absurd (cc)
    by false e true q false r =
        reported (first report_rows (drop 8 t)) (long (codes "/report/") t q)
        (report_found (drop 8 t) (bytes_drop 8 t h))
    by false e false q true r =
        subst (λ o. ByNumber t o (run_resource (drop 4 t))) (sym (run_first (drop 4 t))) (ran (drop 4 t))
    by false e false q false r = refl

-- ---- and by its route

abbrev pub ByRoute : List ℕ → Option Route → Option Resource → Type 0
ByRoute t None resource = resource ≡ None
ByRoute t (Some ImportRoute) resource = (8 ≤ length t) × (resource ≡ import_resource false (drop 8 t))
ByRoute t (Some ReportRoute) resource = (8 ≤ length t) × (resource ≡ report_resource (drop 8 t))
ByRoute t (Some RunRoute) resource = resource ≡ Some Run

of_number : (t : List ℕ) (o : Option ℕ) (resource : Option Resource) → ByNumber t o resource
    → ByRoute t (option_map (λ r. r.value) (map_key routes o)) resource
of_number t None resource h = h
of_number t (Some zero) resource h = h
of_number t (Some (suc zero)) resource h = h
of_number t (Some (suc (suc n))) resource h = h

bytes_of : (s : List ℕ) → ((i : ℕ) → Fits w8 (slice_index_or s i 0)) → Bytes s
bytes_of [] f = tt
bytes_of (b ∷ s) f = let h : Fits w8 b = f 0 in (omega (arith, h), bytes_of s (λ i. f (suc i)))

renamed : (t : List ℕ) → first all_routes t ≡ map_key routes (first plain t)
unfolding plain import_rows report_rows run_rows
renamed t = seek-rename routes 0 plain t

pub by_route : (t p : List ℕ) (o : Option Route) → ((i : ℕ) → Fits w8 (slice_index_or t i 0)) → p ≡ t → o ≡ route_of p
    → ByRoute t o (resource_of t)
by_route t p o f e k =
    let is : option_map (λ r. r.value) (map_key routes (first plain t)) ≡ o =
    sym (k ∙ ap route_of e ∙ ap (option_map (λ (r : RouteOf Route). r.value)) (renamed t)) in
    subst (λ v. ByRoute t v (resource_of t)) is
    (of_number t (first plain t) (resource_of t) (numbered t (bytes_of t f)))
