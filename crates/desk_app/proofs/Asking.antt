-- Lines that a service is asked to run.
use Rattle.std.proofs.Common.{◌≡◌, ◌≤◌, ◌+◌, ◌<◌, ◌∙◌, ℕ, Bool, true, false, List, [], ◌∷◌, ◌++◌, length, arith}
use Rattle.std.proofs.Common.{ap, ap₂, sym, subst, refl, append_assoc, append-nil, length-append, inl, inr}
use Rattle.std.specs.Prelude.{◌≢◌, ◌&&◌, Option, Some, None, Result, Ok, Err}
use Rattle.std.specs.Result.{IsErrAnd}
use Rattle.std.specs.Io.KnownBytes.{Appends, prepend_known}
use Rattle.std.proofs.KnownBytes.{Appends-nil, Appends-trans}
use Rattle.desk_app.specs.Asked.{AddsLine, AreLogged, AsksAndPrints, Exchange, IsOfInput, IsRest, Logged, Prints}
use Rattle.desk_app.specs.Asked.{RunsAt, Sending, TakesBody, exchange, exchanges, joined, lines_sent, question_at}
use Rattle.desk_app.specs.Asked.{shown_from, text_of}
use Rattle.desk_app.specs.Cuts.{TakesLine, first_of, held}
use Rattle.desk_app.specs.Heard.{shown_of, shown_view}
use Rattle.desk_app.specs.Runs.{lines_of}
use Rattle.desk_app.specs.declared.heard.Shown.{Shown}
use Rattle.desk_app.specs.declared.heard.Trouble.{Trouble}
use Rattle.desk_app.specs.declared.heard.Trouble.TheVariants.{Foreign, Cut, Failed, NoToken, TooLong, ReadFailed, WriteFailed}
use Rattle.desk_app.specs.declared.heard.Trouble.TheVariants.{Store, Memory}
use Rattle.std.proofs.lemmas.List.{take_all}
use Rattle.desk_app.proofs.Running.{Keeps-refl, and_assoc, and_true, lines_first}

-- ---- lines that are taken

-- a line that is held stays so
held_short : (line : List ℕ) → length line ≤ 65537 → held line ≡ line
unfolding held
held_short line short = take_all 65537 line short

pub line_added : (known rest : Option (List ℕ)) (line body body' : List ℕ) → TakesLine known true line rest
    → length line ≤ 65537 → body' ≡ body ++ line ++ 10 ∷ [] → AddsLine known rest true body body'
line_added None rest line body body' takes short is =
    (line, is ∙ ap (λ v. body ++ v ++ 10 ∷ []) (sym (held_short line short)), tt)
line_added (Some xs) None line body body' takes short is = absurd takes
line_added (Some xs) (Some ys) line body body' takes short is = (
  first_of xs,
  is ∙ ap (λ v. body ++ v ++ 10 ∷ []) takes.1,
  lines_first xs takes.0 ∙ ap (λ v. first_of xs ∷ lines_of v) (sym takes.2),
)

pub none_added : (known rest : Option (List ℕ)) (line body body' : List ℕ) → TakesLine known false line rest
    → body' ≡ body → AddsLine known rest false body body'
none_added None rest line body body' takes is = (is, tt, tt)
none_added (Some xs) None line body body' takes is = absurd takes
none_added (Some xs) (Some ys) line body body' takes is =
    (is, ap lines_of (takes.0 ∙ sym takes.1), ap lines_of takes.0)

-- ---- what is left of known bytes

pub rest_none : (known : Option (List ℕ)) → IsRest known [] known
rest_none None = tt
rest_none (Some text) = refl

pub rest_trans : (a b c : Option (List ℕ)) (ls ks : List (List ℕ)) → IsRest a ls b → IsRest b ks c → IsRest a (ls ++ ks) c
rest_trans None b c ls ks p q = tt
rest_trans (Some x) None c ls ks p q = absurd p
rest_trans (Some x) (Some y) None ls ks p q = absurd q
rest_trans (Some x) (Some y) (Some z) ls ks p q = p ∙ ap (λ v. ls ++ v) q ∙ sym (append_assoc ls ks (lines_of z))

-- ---- a body

text_more : (ls : List (List ℕ)) (l : List ℕ) → text_of (ls ++ l ∷ []) ≡ text_of ls ++ held l ++ 10 ∷ []
text_more [] l = refl
text_more (k ∷ ls) l =
    let t : List ℕ = 10 ∷ text_of ls in
    ap (λ v. held k ++ 10 ∷ v) (text_more ls l)
    ∙ ap (λ v. held k ++ v) (append_assoc t (held l) (10 ∷ []))
    ∙ sym (append_assoc (held k) t (held l ++ 10 ∷ []))
    ∙ sym (append_assoc (held k ++ t) (held l) (10 ∷ []))

-- so many lines are in the body
pub record Taking (known rest : Option (List ℕ)) (count : ℕ) (body : List ℕ) : Type 0 where
  pub more : List (List ℕ)
  pub body_is : body ≡ text_of more
  pub count_is : length more ≡ count
  pub rest_is : IsRest known more rest

pub taking_none : (known : Option (List ℕ)) (body : List ℕ) → body ≡ [] → Taking known known 0 body
taking_none known body e = record { more = []; body_is = e; count_is = refl; rest_is = rest_none known }

pub taking_more : (known rest rest' : Option (List ℕ)) (count : ℕ) (body body' : List ℕ) → Taking known rest count body
    → AddsLine rest rest' true body body' → Taking known rest' (count + 1) body'
taking_more known rest rest' count body body' t (l, is, one) = record {
  more = t.more ++ l ∷ [];
  body_is = is ∙ ap (λ v. v ++ held l ++ 10 ∷ []) t.body_is ∙ sym (text_more t.more l);
  count_is = omega (arith, length-append t.more (l ∷ []), t.count_is);
  rest_is = rest_trans known rest rest' t.more (l ∷ []) t.rest_is one;
}

pub taken_some : (known rest : Option (List ℕ)) (count : ℕ) (body : List ℕ) → Taking known rest count body → 0 < count
    → TakesBody known rest count body
taken_some known rest count body t some = record {
  more = t.more;
  body_is = t.body_is;
  count_is = t.count_is;
  rest_is = t.rest_is;
  none = λ e. absurd (omega (arith, e));
}

no_more : (known : Option (List ℕ)) (ls : List (List ℕ)) → IsRest known (ls ++ []) (Some []) → IsRest known ls (Some [])
no_more known ls p = subst (λ v. IsRest known v (Some [])) (append-nil ls) p

pub taken_all : (known rest rest' : Option (List ℕ)) (count : ℕ) (body body' : List ℕ) → Taking known rest count body
    → AddsLine rest rest' false body body' → TakesBody known rest' count body'
taken_all known rest rest' count body body' t (is, same, end) = record {
  more = t.more;
  body_is = is ∙ t.body_is;
  count_is = t.count_is;
  rest_is = subst (λ v. IsRest known v rest') (append-nil t.more) (rest_trans known rest rest' t.more [] t.rest_is same);
  none = λ e. no_more known t.more (rest_trans known rest (Some []) t.more [] t.rest_is end);
}

-- ---- many exchanges

joined_more : (x y y' : Result (List ℕ × Bool) Trouble) (a b : List ℕ × Bool) → joined x y ≡ Ok a
    → ((c : List ℕ × Bool) → y ≡ Ok c → y' ≡ Ok (c.0 ++ b.0, c.1 && b.1)) → joined x y' ≡ Ok (a.0 ++ b.0, a.1 && b.1)
joined_more (Ok x) (Ok y) y' a b e more =
    let same : (x.0 ++ y.0, x.1 && y.1) ≡ a = cc in
    ap (joined (Ok x)) (more y refl)
    ∙ ap₂ (λ t f. Ok (t, f)) (sym (append_assoc x.0 y.0 b.0)) (sym (and_assoc x.1 y.1 b.1))
    ∙ ap (λ (v : List ℕ × Bool). Ok (v.0 ++ b.0, v.1 && b.1)) same
joined_more (Ok x) (Err why) y' a b e more = absurd (cc)
joined_more (Err why) y y' a b e more = absurd (cc)

joined_one : (x : Result (List ℕ × Bool) Trouble) (b : List ℕ × Bool) → x ≡ Ok b → joined x (Ok ([], true)) ≡ Ok (b.0, b.1)
joined_one x b e =
    ap (λ v. joined v (Ok ([], true))) e ∙ ap₂ (λ t f. Ok (t, f)) (append-nil b.0) (and_true b.1)

shown_more : (stop : Bool) (before : ℕ) (ss : List Sending) (s : Sending) (a b : List ℕ × Bool) → shown_from stop before ss ≡ Ok a
    → shown_of (question_at stop) (before + length (lines_sent ss)) s.heard ≡ Ok b
    → shown_from stop before (ss ++ s ∷ []) ≡ Ok (a.0 ++ b.0, a.1 && b.1)
shown_more stop before [] s a b e f =
    let none : ([], true) ≡ a = cc in
    let here : before + 0 ≡ before = omega arith in
    joined_one (shown_of (question_at stop) before s.heard) b
    (ap (λ n. shown_of (question_at stop) n s.heard) (sym here) ∙ f)
    ∙ ap (λ (v : List ℕ × Bool). Ok (v.0 ++ b.0, v.1 && b.1)) none
shown_more stop before (t ∷ ss) s a b e f =
    let there : before + length (t.lines ++ lines_sent ss) ≡ before + length t.lines + length (lines_sent ss) =
    omega (arith, length-append t.lines (lines_sent ss)) in
    joined_more (shown_of (question_at stop) before t.heard) (shown_from stop (before + length t.lines) ss)
    (shown_from stop (before + length t.lines) (ss ++ s ∷ [])) a b e
    (λ c is. shown_more stop (before + length t.lines) ss s c b is
    (ap (λ n. shown_of (question_at stop) n s.heard) (sym there) ∙ f))

exchanges_more : (stop : Bool) (ss : List Sending) (s : Sending) → exchanges stop (ss ++ s ∷ [])
    ≡ exchanges stop ss ++ exchange (question_at stop) (text_of s.lines) s.heard ∷ []
exchanges_more stop [] s = refl
exchanges_more stop (t ∷ ss) s =
    ap (λ v. exchange (question_at stop) (text_of t.lines) t.heard ∷ v) (exchanges_more stop ss s)

sent_more : (ss : List Sending) (s : Sending) → lines_sent (ss ++ s ∷ []) ≡ lines_sent ss ++ s.lines
sent_more [] s = append-nil s.lines
sent_more (t ∷ ss) s =
    ap (λ v. t.lines ++ v) (sent_more ss s) ∙ sym (append_assoc t.lines (lines_sent ss) s.lines)

logged_more : (a b c : Option (List Exchange)) (es : List Exchange) (x : Exchange) → AreLogged a b es → Logged b c x
    → AreLogged a c (es ++ x ∷ [])
logged_more None b c es x p q = tt
logged_more (Some log) b c es x p q =
    subst (λ v. Logged v c x) p q ∙ ap (λ v. Some v) (append_assoc log es (x ∷ []))

logged_none : (a : Option (List Exchange)) → AreLogged a a []
logged_none None = tt
logged_none (Some log) = ap (λ v. Some v) (sym (append-nil log))

-- what was shown, of what was printed
record Printed (x : Result (List ℕ × Bool) Trouble) (w w' : Option (List ℕ)) (fine : Bool) : Type 0 where
  pub shown : List ℕ × Bool
  pub is : x ≡ Ok shown
  pub fine_is : fine ≡ shown.1
  pub printed : Appends w w' shown.0

shown_out : (x : Result (List ℕ × Bool) Trouble) (w w' : Option (List ℕ)) (fine : Bool) → Prints x w w' (Ok fine)
    → Printed x w w' fine
shown_out (Ok shown) w w' fine p = record { shown = shown; is = refl; fine_is = p.0; printed = p.1 }
shown_out (Err why) w w' fine p = absurd p

-- ---- a run

-- these were sent, and what is shown of them was printed
pub record Going (stop : Bool) (known rest : Option (List ℕ)) (log log' : Option (List Exchange)) (w w' : Option (List ℕ))
    (before : ℕ) (all : Bool) : Type 0 where
  pub sent : List Sending
  pub shown : List ℕ × Bool
  pub told : shown_from stop 0 sent ≡ Ok shown
  pub logged : AreLogged log log' (exchanges stop sent)
  pub printed : Appends w w' shown.0
  pub all_is : all ≡ shown.1
  pub before_is : before ≡ length (lines_sent sent)
  pub rest_is : IsRest known (lines_sent sent) rest

kept_none : (known : Option (List ℕ)) (unread : List ℕ) → unread ≡ [] → IsRest known [] (prepend_known unread known)
kept_none None unread e = tt
kept_none (Some text) unread e = ap (λ v. lines_of (v ++ text)) (sym e)

pub going_none : (stop : Bool) (known : Option (List ℕ)) (unread : List ℕ) (log : Option (List Exchange)) (w : Option (List ℕ))
    → unread ≡ [] → Going stop known (prepend_known unread known) log log w w 0 true
going_none stop known unread log w e = record {
  sent = [];
  shown = ([], true);
  told = refl;
  logged = logged_none log;
  printed = Appends-nil w;
  all_is = refl;
  before_is = refl;
  rest_is = kept_none known unread e;
}

pub going_more : (stop : Bool) (known rest rest' : Option (List ℕ)) (log log' log'' : Option (List Exchange))
    (w w' w'' : Option (List ℕ)) (before count next : ℕ) (all fine both : Bool) (body : List ℕ)
    → Going stop known rest log log' w w' before all
    → TakesBody rest rest' count body
    → AsksAndPrints (question_at stop) before body log' log'' w' w'' (Ok fine) → next ≡ before + count → both ≡ (all && fine)
    → Going stop known rest' log log'' w w'' next both
going_more stop known rest rest' log log' log'' w w' w'' before count next all fine both body g t (heard, one, out) add and =
    let s : Sending = record { lines = t.more; heard = heard } in
    let o = shown_out (shown_of (question_at stop) before heard) w' w'' fine out in
    let here : 0 + length (lines_sent g.sent) ≡ before = omega (arith, g.before_is) in
    record {
      sent = g.sent ++ s ∷ [];
      shown = (g.shown.0 ++ o.shown.0, g.shown.1 && o.shown.1);
      told =
          shown_more stop 0 g.sent s g.shown o.shown g.told
          (ap (λ n. shown_of (question_at stop) n heard) here ∙ o.is);
      logged =
          subst (AreLogged log log'') (sym (exchanges_more stop g.sent s))
          (logged_more log log' log'' (exchanges stop g.sent) _ g.logged
          (subst (λ v. Logged log' log'' (exchange (question_at stop) v heard)) t.body_is one));
      printed = Appends-trans w w' w'' g.shown.0 o.shown.0 g.printed o.printed;
      all_is = and ∙ ap₂ (λ a b. a && b) g.all_is o.fine_is;
      before_is =
          omega (
            arith,
            add,
            g.before_is,
            t.count_is,
            ap length (sent_more g.sent s),
            length-append (lines_sent g.sent) t.more,
          );
      rest_is =
          subst (λ v. IsRest known v rest') (sym (sent_more g.sent s))
          (rest_trans known rest rest' (lines_sent g.sent) t.more g.rest_is t.rest_is);
    }

-- ---- how it ends

pub never_begun : (stop : Bool) (known : Option (List ℕ)) (log : Option (List Exchange)) (w : Option (List ℕ)) (why : Trouble)
    → IsOfInput why → RunsAt stop known log log w w (Err why)
never_begun stop known log w why input = record {
  sent = [];
  shown = ([], true);
  log_then = log;
  w_then = w;
  told = refl;
  logged = logged_none log;
  printed = Appends-nil w;
  ends = inl (input, refl, refl, (known, rest_none known));
}

pub ends_input : (stop : Bool) (known rest : Option (List ℕ)) (log log' : Option (List Exchange)) (w w' : Option (List ℕ))
    (before : ℕ) (all : Bool) (why : Trouble) → Going stop known rest log log' w w' before all → IsOfInput why
    → RunsAt stop known log log' w w' (Err why)
ends_input stop known rest log log' w w' before all why g input = record {
  sent = g.sent;
  shown = g.shown;
  log_then = log';
  w_then = w';
  told = g.told;
  logged = g.logged;
  printed = g.printed;
  ends = inl (input, refl, refl, (rest, g.rest_is));
}

pub ends_all : (stop : Bool) (known rest rest' : Option (List ℕ)) (log log' : Option (List Exchange)) (w w' : Option (List ℕ))
    (before count : ℕ) (all : Bool) (body : List ℕ) → Going stop known rest log log' w w' before all
    → TakesBody rest rest' count body → count ≡ 0 → RunsAt stop known log log' w w' (Ok all)
ends_all stop known rest rest' log log' w w' before count all body g t none = record {
  sent = g.sent;
  shown = g.shown;
  log_then = log';
  w_then = w';
  told = g.told;
  logged = g.logged;
  printed = g.printed;
  ends = (
    g.all_is,
    refl,
    refl,
    inl (no_more known (lines_sent g.sent)
        (rest_trans known rest (Some []) (lines_sent g.sent) [] g.rest_is
        (subst (λ v. IsRest rest v (Some [])) (no_lines t.more (t.count_is ∙ none)) (t.none none)))),
  );
}
  where
    no_lines : (ls : List (List ℕ)) → length ls ≡ 0 → ls ≡ []
    no_lines [] e = refl
    no_lines (l ∷ ls) e = absurd (omega (arith, e))

pub ends_stopped : (stop : Bool) (known rest : Option (List ℕ)) (log log' : Option (List Exchange)) (w w' : Option (List ℕ))
    (before : ℕ) (all : Bool) → Going stop known rest log log' w w' before all → stop ≡ true → all ≡ false
    → RunsAt stop known log log' w w' (Ok false)
ends_stopped stop known rest log log' w w' before all g stops none = record {
  sent = g.sent;
  shown = g.shown;
  log_then = log';
  w_then = w';
  told = g.told;
  logged = g.logged;
  printed = g.printed;
  ends = (sym none ∙ g.all_is, refl, refl, inr (stops, refl, (rest, g.rest_is)));
}

pub ends_asked : (stop : Bool) (known rest rest' : Option (List ℕ)) (log log' log'' : Option (List Exchange))
    (w w' w'' : Option (List ℕ)) (before count : ℕ) (all : Bool) (body : List ℕ) (why : Trouble)
    → Going stop known rest log log' w w' before all → TakesBody rest rest' count body
    → AsksAndPrints (question_at stop) before body log' log'' w' w'' (Err why)
    → RunsAt stop known log log'' w w'' (Err why)
ends_asked stop known rest rest' log log' log'' w w' w'' before count all body why g t asked = record {
  sent = g.sent;
  shown = g.shown;
  log_then = log';
  w_then = w';
  told = g.told;
  logged = g.logged;
  printed = g.printed;
  ends =
      inr (
        t.more,
        (rest', rest_trans known rest rest' (lines_sent g.sent) t.more g.rest_is t.rest_is),
        subst (λ n. AsksAndPrints (question_at stop) n (text_of t.more) log' log'' w' w'' (Err why)) g.before_is
            (subst (λ v. AsksAndPrints (question_at stop) before v log' log'' w' w'' (Err why)) t.body_is asked),
      );
}

-- of what came of an error, by the error
pub runs_as : (P : Result Bool Trouble → Type 0) (r : Result Bool Trouble) (why : Trouble) → IsErrAnd r (λ d. d ≡ why)
    → P (Err why) → P r
runs_as P (Ok x) why h p = absurd h
runs_as P (Err d) why h p = subst (λ e. P (Err e)) (sym h) p

-- ---- one question

view_told : (r : Result Shown Trouble) (x : Result (List ℕ × Bool) Trouble) → (r ≢ Err Memory → shown_view r ≡ x)
    → (s : Shown) → r ≡ Ok s → Ok (s.text.items, s.fine) ≡ x
view_told r x f s e =
    ap shown_view (sym e) ∙ f (λ m. let both : Ok s ≡ Err Memory = sym e ∙ m in absurd (cc))

view_failed : (r : Result Shown Trouble) (x : Result (List ℕ × Bool) Trouble) → (r ≢ Err Memory → shown_view r ≡ x)
    → (e : Trouble) → r ≡ Err e → e ≢ Memory → Err e ≡ x
view_failed r x f e is other =
    ap shown_view (sym is) ∙ f (λ m. let both : Err e ≡ Err Memory = sym is ∙ m in other (cc))

kept_memory : (x : Result (List ℕ × Bool) Trouble) (w : Option (List ℕ)) → Prints x w w (Err Memory)
kept_memory (Ok shown) w = Keeps-refl w
kept_memory (Err why) w = Keeps-refl w

pub prints_none : (r : Result Shown Trouble) (x : Result (List ℕ × Bool) Trouble) (w : Option (List ℕ)) (e : Trouble)
    → (r ≢ Err Memory → shown_view r ≡ x) → r ≡ Err e → Prints x w w (Err e)
prints_none r x w Memory f is = kept_memory x w
prints_none r x w Foreign f is =
    subst (λ y. Prints y w w (Err Foreign)) (view_failed r x f Foreign is (λ h. absurd (cc))) (refl, Keeps-refl w)
prints_none r x w Cut f is =
    subst (λ y. Prints y w w (Err Cut)) (view_failed r x f Cut is (λ h. absurd (cc))) (refl, Keeps-refl w)
prints_none r x w Failed f is =
    subst (λ y. Prints y w w (Err Failed)) (view_failed r x f Failed is (λ h. absurd (cc))) (refl, Keeps-refl w)
prints_none r x w NoToken f is =
    subst (λ y. Prints y w w (Err NoToken)) (view_failed r x f NoToken is (λ h. absurd (cc))) (refl, Keeps-refl w)
prints_none r x w TooLong f is =
    subst (λ y. Prints y w w (Err TooLong)) (view_failed r x f TooLong is (λ h. absurd (cc))) (refl, Keeps-refl w)
prints_none r x w ReadFailed f is =
    subst (λ y. Prints y w w (Err ReadFailed)) (view_failed r x f ReadFailed is (λ h. absurd (cc))) (refl, Keeps-refl w)
prints_none r x w WriteFailed f is =
    subst (λ y. Prints y w w (Err WriteFailed)) (view_failed r x f WriteFailed is (λ h. absurd (cc))) (refl, Keeps-refl w)
prints_none r x w Store f is =
    subst (λ y. Prints y w w (Err Store)) (view_failed r x f Store is (λ h. absurd (cc))) (refl, Keeps-refl w)

pub prints_shown : (r : Result Shown Trouble) (x : Result (List ℕ × Bool) Trouble) (w w' : Option (List ℕ)) (s : Shown)
    (told : Result Bool Trouble) → (r ≢ Err Memory → shown_view r ≡ x) → r ≡ Ok s
    → Prints (Ok (s.text.items, s.fine)) w w' told → Prints x w w' told
prints_shown r x w w' s told f is p = subst (λ y. Prints y w w' told) (view_told r x f s is) p
