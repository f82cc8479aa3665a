-- What a service offers besides its operations: who may ask it, and the page that it shows, if it shows one.
use Rattle.std.specs.Prelude.{ℕ, List, Option, option_map}
use Rattle.desk_http.specs.AccessRules.{AccessRules}
use Rattle.desk_http.specs.declared.site.Page.{Page}

-- a page of HTML, and what it may load and run, as its browser is told
pub record PageView : Type 0 where
  pub text : List ℕ
  pub policy : List ℕ

pub record SiteRules : Type 0 where
  pub access : AccessRules
  pub page : Option PageView

-- ---- the same as code has it

abbrev pub page_view : Page → PageView
page_view page = record { text = page.text.now; policy = page.policy.now }

abbrev pub some_page : Option Page → Option PageView
some_page page = option_map page_view page
