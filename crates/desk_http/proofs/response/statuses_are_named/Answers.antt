use Rattle.std.proofs.Common.{refl}
use Rattle.std.specs.Fmt.{digits}
use Rattle.desk_http.proofs.response.statuses_are_named.Goals as goal

pub returns : goal.returns
unfolding digits
returns c = record {
  ok = refl;
  not_modified = refl;
  bad_request = refl;
  unauthorized = refl;
  forbidden = refl;
  not_found = refl;
  not_allowed = refl;
  conflict = refl;
  length_required = refl;
  body_too_large = refl;
  misdirected = refl;
  head_too_large = refl;
  server_error = refl;
  unavailable = refl;
}
