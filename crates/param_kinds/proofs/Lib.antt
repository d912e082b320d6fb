mod ValueLaws
mod Runs
mod ParamParts
